pub mod Front
pub mod Normal
pub mod Asks
pub mod Outcome
pub mod HalfTurn
