pub mod Calls
pub mod Held
pub mod Law
pub mod Places
pub mod Serving
