pub mod Laws
pub mod Listed
pub mod Sifted
