pub mod Machines
pub mod Counters
