pub mod Answers
pub mod Owned
pub mod Planned
pub mod Questions
pub mod Selected
pub mod Whole
