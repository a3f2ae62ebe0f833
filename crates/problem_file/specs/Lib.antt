pub mod Shifts
pub mod Values
pub mod Prefix
