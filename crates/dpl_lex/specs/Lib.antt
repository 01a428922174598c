pub mod Classes
pub mod Number
pub mod Name
pub mod Cutting
pub mod CuttingLaws
