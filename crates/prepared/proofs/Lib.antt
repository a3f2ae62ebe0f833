-- Laws that several proofs cite, and that each contract leaves one result.
pub mod Parts
pub mod Unique
