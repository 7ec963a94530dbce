pub mod Block
pub mod Listing
pub mod Shown
pub mod Table
pub mod Waits
