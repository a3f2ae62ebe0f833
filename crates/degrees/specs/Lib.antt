pub mod Signed
pub mod From
pub mod Degrees
pub mod Claims
