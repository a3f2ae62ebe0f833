pub mod Widths
pub mod Kept
