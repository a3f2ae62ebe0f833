-- Laws that several proofs cite, and that each contract leaves one result.
pub mod Degrees
pub mod Larger
pub mod Signed
pub mod Unique
