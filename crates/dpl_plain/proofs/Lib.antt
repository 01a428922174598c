pub mod PlainLemmas
pub mod PartLemmas
