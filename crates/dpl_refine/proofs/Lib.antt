pub mod TurnLemmas
pub mod PieceLemmas
pub mod SumLemmas
pub mod AroundLemmas
pub mod LeastLemmas
