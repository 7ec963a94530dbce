pub mod Drives
pub mod Examples
pub mod Pools
