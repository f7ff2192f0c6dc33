pub mod Format
pub mod Kinds
pub mod Records
pub mod Checking
pub mod Laws
pub mod Reading
