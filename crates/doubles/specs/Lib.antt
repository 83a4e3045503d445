pub mod Arithmetic
pub mod Floor
pub mod Root
pub mod Power
pub mod Range
pub mod Norm
pub mod Distance
