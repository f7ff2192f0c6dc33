pub mod Steps
pub mod Passing
pub mod Handing
pub mod Refusing
pub mod Spelling
pub mod Taking
pub mod Cases
