pub mod Masks
pub mod Lines
pub mod MaskLines
pub mod Drawings
pub mod Written
