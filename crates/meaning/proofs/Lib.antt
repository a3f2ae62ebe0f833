pub mod Bridge
pub mod Generating
pub mod Verdicts
pub mod DrawnMeaning
pub mod Meaning
pub mod LeastDegrees
pub mod Before
pub mod Examples
