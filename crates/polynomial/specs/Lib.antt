pub mod Coefficients
pub mod Count
