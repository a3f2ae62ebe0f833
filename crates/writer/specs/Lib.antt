pub mod Appended
pub mod FourBytes
pub mod Decimal
pub mod Kept
