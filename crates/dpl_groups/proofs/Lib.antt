pub mod Reach
pub mod Walks
pub mod Steps
pub mod Closing
pub mod Views
pub mod Settling
pub mod AllDone
