pub mod Example
pub mod Following
pub mod Law
pub mod Owing
pub mod Script
pub mod Standing
