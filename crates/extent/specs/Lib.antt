pub mod Extent
pub mod Kernel
