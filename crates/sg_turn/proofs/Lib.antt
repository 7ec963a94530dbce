pub mod Lists
pub mod EntryLists
pub mod Views
pub mod Slots
pub mod RuleSteps
pub mod SeatLists
