pub mod Nearest
pub mod Ranges
pub mod Transfer
pub mod Product
