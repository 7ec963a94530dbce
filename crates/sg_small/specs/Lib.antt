pub mod Link
pub mod Reader
