pub mod LayerLemmas
pub mod ReasonLemmas
pub mod ReadingLemmas
pub mod TextLemmas
pub mod RefusalLemmas
pub mod MovedLemmas
pub mod ShareLemmas
