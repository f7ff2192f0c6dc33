pub mod Pascal
pub mod Rounds
pub mod Levels
pub mod Certificates
pub mod Rule
pub mod Plays
pub mod Theorems
pub mod Climb
