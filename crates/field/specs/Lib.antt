pub mod Laws
pub mod Modulus
pub mod Table
