pub mod Answers
pub mod Replies
pub mod Viewing
pub mod Rules
pub mod Model
pub mod Promises
