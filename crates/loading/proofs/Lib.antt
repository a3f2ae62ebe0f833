-- That the contracts of the functions whose result does not come from outside leave one result.
pub mod Unique
