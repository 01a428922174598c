-- what a reader must believe
pub mod Cycles
pub mod Bars
pub mod Points
pub mod Crossings
-- the words of the functions below `bar` and `crossing`
pub mod Searches
pub mod Rows
pub mod Segments
pub mod Tests
pub mod Links
