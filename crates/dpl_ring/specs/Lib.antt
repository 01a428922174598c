pub mod Rings
pub mod Places
pub mod Pairs
pub mod Blocks
