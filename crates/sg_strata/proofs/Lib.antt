pub mod Greatest
pub mod Growing
pub mod Moments
pub mod Ranks
pub mod Running
pub mod Sets
