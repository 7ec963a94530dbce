pub mod FoundTexts
mod Rows
mod Looping
mod Hearing
mod LineOrder
mod OwnEntries
mod UnitTexts
mod OneText
