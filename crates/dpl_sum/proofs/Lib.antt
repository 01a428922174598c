pub mod OddLemmas
pub mod SolutionLemmas
pub mod LayLemmas
pub mod SolveLemmas
pub mod SameLemmas
