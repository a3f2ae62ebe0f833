pub mod Order
pub mod Reduced
pub mod Rows
pub mod RowLaws
pub mod State
pub mod Fold
