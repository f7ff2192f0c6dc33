pub mod Made
pub mod Packing
pub mod Stepping
pub mod Examples
