pub mod BothWays
pub mod Converting
pub mod Related
