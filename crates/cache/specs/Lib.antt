pub mod Questions
pub mod Places
pub mod Words
