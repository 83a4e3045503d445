pub mod Cases
pub mod Channels
pub mod Ends
pub mod Axes
pub mod Field
pub mod Steps
pub mod Gathering
