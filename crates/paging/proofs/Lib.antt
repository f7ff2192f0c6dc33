pub mod Different
pub mod Numbers
pub mod Pigeons
pub mod Placing
pub mod Rows
