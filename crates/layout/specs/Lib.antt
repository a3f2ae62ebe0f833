pub mod Flat
pub mod Holds
pub mod Settles
pub mod Words
