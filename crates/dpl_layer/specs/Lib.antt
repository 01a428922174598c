pub mod Reasons
pub mod Drawings
pub mod Layers
pub mod Refusals
pub mod Errors
pub mod Steps
