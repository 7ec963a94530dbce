pub mod Conversion
pub mod Law
pub mod Operators
pub mod Relations
pub mod Side
