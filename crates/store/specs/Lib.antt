pub mod Slots
pub mod Pairs
pub mod Counting
pub mod Sides
