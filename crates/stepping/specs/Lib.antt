pub mod Next
pub mod Filled
