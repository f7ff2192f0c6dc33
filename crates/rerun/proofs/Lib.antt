pub mod Walking
pub mod Telling
