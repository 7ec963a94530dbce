pub mod Driving
pub mod Example
pub mod Pool
