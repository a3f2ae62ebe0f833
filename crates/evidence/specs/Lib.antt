pub mod Record
pub mod Kept
