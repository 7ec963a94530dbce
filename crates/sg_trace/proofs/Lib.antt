pub mod Fronts
pub mod Holding
pub mod Telling
pub mod Traces
