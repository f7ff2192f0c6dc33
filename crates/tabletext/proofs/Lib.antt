pub mod Numerals
pub mod Tables
