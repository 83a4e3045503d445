pub mod Call
pub mod Steps
