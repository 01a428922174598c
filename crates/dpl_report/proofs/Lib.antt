pub mod LineLemmas
pub mod ItemLemmas
pub mod NameItems
pub mod ReportFormat
pub mod CommentLemmas
pub mod TextFormat
pub mod DrawnLemmas
pub mod PlainLemmas
