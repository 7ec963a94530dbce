pub mod Naming
pub mod Identifiers
pub mod Parse
pub mod DeclView
