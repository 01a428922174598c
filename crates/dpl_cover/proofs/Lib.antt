pub mod CountLemmas
pub mod ColumnLemmas
pub mod TallyLemmas
pub mod CoverLemmas
pub mod PartLemmas
pub mod RowLemmas
pub mod MergeLemmas
