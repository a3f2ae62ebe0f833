pub mod Found
pub mod Quotient
pub mod Table
