mod Classes
mod Rising
mod Folders
