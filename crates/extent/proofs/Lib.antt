pub mod RadiusBounds
pub mod Extents
pub mod Readings
pub mod KernelCases
