pub mod Gathered
pub mod Rising
pub mod Rows
