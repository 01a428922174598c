pub mod Holds
pub mod Kinds
pub mod Meetings
pub mod Stops
