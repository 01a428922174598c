pub mod RingLemmas
pub mod PairLemmas
pub mod Steps
pub mod Values
