pub mod Faults
pub mod NameTurns
pub mod TypeTurns
pub mod SuffixTurns
pub mod StepTurns
pub mod ListTurns
pub mod LinkTurns
