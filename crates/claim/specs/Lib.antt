pub mod Claims
pub mod Sound
pub mod Holds
pub mod Empty
