pub mod Digits
pub mod CuttingRules
pub mod CuttingLemmas
pub mod Within
