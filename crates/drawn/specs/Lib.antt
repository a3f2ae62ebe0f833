pub mod Horner
pub mod Rows
pub mod Sums
pub mod Values
pub mod Columns
pub mod Asked
pub mod Claims
