pub mod Scans
pub mod Signals
pub mod Laws
