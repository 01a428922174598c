pub mod Chains
pub mod Classes
pub mod Roots
pub mod Ways
