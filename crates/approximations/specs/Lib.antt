pub mod Circular
pub mod Exp2
pub mod Log2
pub mod Powers
