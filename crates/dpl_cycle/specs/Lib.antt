pub mod Cycles
pub mod Sums
pub mod Among
pub mod Names
