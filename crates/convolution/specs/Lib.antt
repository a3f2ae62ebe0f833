pub mod Padded
pub mod Steps
pub mod Fold
pub mod Shifted
pub mod Triple
pub mod Product
pub mod Front
pub mod Unpadded
