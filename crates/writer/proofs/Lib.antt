pub mod Steps
pub mod Planning
pub mod Filling
pub mod Returning
pub mod Copies
