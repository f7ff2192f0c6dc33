pub mod Copying
pub mod Stored
