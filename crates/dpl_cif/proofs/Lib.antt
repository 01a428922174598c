pub mod Fits
pub mod InOrder
pub mod Rounds
pub mod ScopeLemmas
