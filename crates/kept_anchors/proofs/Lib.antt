pub mod Picked
pub mod Counts
pub mod Reached
pub mod Apart
pub mod Sifted
pub mod KeptKey
