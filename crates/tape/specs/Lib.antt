-- the definitions
pub mod Turing
pub mod Layout
pub mod Tables
pub mod Tapes
pub mod Locality
-- proofs of what the machine's laws ask
pub mod Symbols
pub mod Cells
pub mod Laws
