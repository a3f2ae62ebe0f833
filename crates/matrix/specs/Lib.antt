pub mod Fill
pub mod Leading
pub mod Rank
pub mod Claims
pub mod Kept
