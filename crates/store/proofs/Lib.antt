pub mod Refused
pub mod Paired
pub mod Counted
