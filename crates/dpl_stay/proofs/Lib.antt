pub mod OrderLemmas
pub mod PairLemmas
pub mod MarkLemmas
pub mod StayLemmas
pub mod KeepLemmas
pub mod SightLemmas
