pub mod Marks
pub mod Steps
pub mod Settings
pub mod Rules
