pub mod Meant
pub mod Replies
