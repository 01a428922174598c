-- The states of the steps within a stage: what one step of the code hands to the next.
pub mod Climbs
pub mod Forests
pub mod Growth
pub mod Joins
pub mod Opened
pub mod Parted
pub mod Rounds
