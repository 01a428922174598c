pub mod ChainLemmas
pub mod RootLemmas
pub mod WayLemmas
pub mod LabelLemmas
pub mod NumberLemmas
