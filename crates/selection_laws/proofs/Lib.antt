pub mod Sublists
pub mod KeyOver
pub mod BackRoom
pub mod FlatRoom
pub mod KeptOrder
pub mod KeptQuestions
pub mod Selected
