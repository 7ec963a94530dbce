pub mod Law
pub mod List
pub mod Program
pub mod Run
pub mod Strata
