pub mod Asking
pub mod ExampleSteps
pub mod Lists
pub mod Progress
pub mod Puts
pub mod Readings
pub mod Sequences
pub mod Steps
