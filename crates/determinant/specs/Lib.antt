pub mod Sign
pub mod Tops
pub mod Square
pub mod Expansion
