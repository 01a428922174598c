pub mod DecimalLemmas
pub mod EdgeLemmas
pub mod CycleLemmas
