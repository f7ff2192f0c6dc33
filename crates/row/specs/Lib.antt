pub mod Cells
pub mod Laws
pub mod Rows
pub mod Examples
