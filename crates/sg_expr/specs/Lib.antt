pub mod Code
pub mod Laying
pub mod Positions
pub mod Tree
pub mod Word
