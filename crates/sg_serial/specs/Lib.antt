pub mod Example
pub mod Replies
pub mod Serial
