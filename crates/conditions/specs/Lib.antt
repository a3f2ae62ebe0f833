pub mod Applies
pub mod Steps
pub mod Findings
pub mod Kept
