pub mod KeyCounts
pub mod KeyNames
pub mod KeyOrder
