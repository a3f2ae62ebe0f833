pub mod Stands
pub mod Readings
