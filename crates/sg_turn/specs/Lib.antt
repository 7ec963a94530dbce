pub mod Entries
pub mod Stage
pub mod View
pub mod Rule
pub mod Steps
pub mod TurnSeat
pub mod Turn
