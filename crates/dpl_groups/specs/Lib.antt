pub mod Graph
pub mod Groups
pub mod Walk
