-- packings that bound more
pub mod Packed
