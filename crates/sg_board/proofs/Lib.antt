pub mod Laid
mod Moves
mod Sums
mod Weights
