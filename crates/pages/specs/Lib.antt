pub mod Stored
pub mod Used
