-- What is judged by the codes that apply, and that the contract leaves one result.
pub mod Judged
pub mod Unique
