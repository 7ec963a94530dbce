pub mod Entries
pub mod Law
pub mod Tells
