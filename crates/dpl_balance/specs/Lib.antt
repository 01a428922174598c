-- what a reader must believe
pub mod Areas
pub mod Cells
pub mod Balance
pub mod Rest
-- the words of the functions below `balance`
pub mod Sides
pub mod Parts
