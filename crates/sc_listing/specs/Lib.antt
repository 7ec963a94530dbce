pub mod Titles
pub mod Listed
pub mod Graph
pub mod Questions
pub mod Answers
pub mod Heard
pub mod ByUnit
