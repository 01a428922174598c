pub mod Columns
pub mod Counts
pub mod Tallies
pub mod Covers
pub mod Parts
