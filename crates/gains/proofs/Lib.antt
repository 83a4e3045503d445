pub mod Lookups
pub mod DiffuseSigns
pub mod GainBounds
pub mod lookup
