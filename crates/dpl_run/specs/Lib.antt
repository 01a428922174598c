pub mod Lines
pub mod Inputs
pub mod Devices
pub mod due
pub mod Answer
pub mod Deciding
pub mod Telling
pub mod Errors
