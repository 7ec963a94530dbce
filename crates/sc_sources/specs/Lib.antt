pub mod Law
pub mod Read
pub mod Reading
pub mod Sources
pub mod Threads
