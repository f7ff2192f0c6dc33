pub mod Binomials
pub mod Counts
pub mod Backs
pub mod Schedules
pub mod Theorems
