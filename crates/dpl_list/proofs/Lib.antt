pub mod Lists
pub mod Sums
pub mod Zips
pub mod Ordered
pub mod Integers
pub mod OrderLemmas
pub mod Naturals
pub mod Grouping
