pub mod Text
pub mod Cut
pub mod Answer
pub mod Meant
pub mod Service
pub mod Kept
