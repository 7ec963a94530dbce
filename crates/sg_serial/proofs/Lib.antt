pub mod Examples
pub mod Serves
pub mod Serving
pub mod Settling
