pub mod Flagged
pub mod Gathered
pub mod Listed
pub mod Sets
pub mod Showing
pub mod Standing
pub mod Tables
