pub mod Storing
pub mod Flat
pub mod Poured
pub mod Arrays
pub mod Records
pub mod Kept
