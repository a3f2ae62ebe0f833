pub mod Total
pub mod Product
pub mod Search
pub mod Faults
pub mod Claims
