pub mod Mantissa
pub mod Differences
pub mod Cases
