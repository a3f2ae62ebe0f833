pub mod Stored
pub mod Rows
pub mod Kept
