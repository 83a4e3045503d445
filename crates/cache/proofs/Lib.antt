pub mod EightKeys
pub mod KeyCompare
pub mod Later
