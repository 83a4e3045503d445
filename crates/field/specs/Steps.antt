pub mod Columns
pub mod Filling
pub mod Flat
pub mod Sums
