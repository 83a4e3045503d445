pub mod Slices
pub mod Picks
pub mod Parts
pub mod Runs
pub mod Rows
pub mod Cuts
