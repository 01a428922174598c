pub mod Changes
pub mod Families
pub mod Loads
pub mod Pairings
pub mod Storing
