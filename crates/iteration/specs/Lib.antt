pub mod NextRows
pub mod After
pub mod Steps
pub mod Begin
pub mod Measure
pub mod Made
