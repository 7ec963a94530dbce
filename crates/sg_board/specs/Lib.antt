pub mod Places
pub mod Shapes
pub mod Shares
pub mod Weighing
