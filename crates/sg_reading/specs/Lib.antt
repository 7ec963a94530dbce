pub mod Example
pub mod Law
pub mod Progress
pub mod Reading
pub mod Replies
pub mod Stop
