pub mod LayLemmas
pub mod OddLemmas
