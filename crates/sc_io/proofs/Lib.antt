pub mod FileLists
pub mod Rooms
