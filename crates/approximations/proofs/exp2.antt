pub mod Exponent
pub mod Ranges
pub mod Sign
pub mod Finite
