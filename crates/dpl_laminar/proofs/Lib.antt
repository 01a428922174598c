pub mod Duality
mod Expanding
mod Gathered
pub mod Keeping
mod Lifting
pub mod Numbers
pub mod Reached
pub mod Released
mod Rows
mod Shrinking
mod Singles
pub mod Sums
mod Walks
