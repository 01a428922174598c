pub mod Cycles
pub mod Read
