pub mod Knots
pub mod Responses
pub mod Patched
pub mod Tables
pub mod Place
pub mod Steps
