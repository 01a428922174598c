pub mod Mates
pub mod Metrics
pub mod Stages
pub mod Views
pub mod steps
