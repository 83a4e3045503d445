pub mod Comparing
pub mod Listing
pub mod Rising
pub mod Cases
pub mod Quotient
pub mod Writing
