pub mod Texts
pub mod Rows
pub mod Spines
pub mod CallKinds
pub mod Numbers
