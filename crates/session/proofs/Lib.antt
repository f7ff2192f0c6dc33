pub mod Buffers
pub mod Promised
pub mod Loops
pub mod Leading
