pub mod Keys
pub mod Steps
pub mod InKey
