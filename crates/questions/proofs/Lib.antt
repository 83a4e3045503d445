pub mod Runs
pub mod Distinct
pub mod Indexed
pub mod ActiveInKey
pub mod KeyQuestions
pub mod Ascending
pub mod Answered
