pub mod Lookup
pub mod Walls
pub mod Diffuse
pub mod Gains
pub mod Steps
