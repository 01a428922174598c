-- what a reader must believe
pub mod Same
-- the words of the laws
pub mod Laws
-- the words of the functions below `keep_colours`
pub mod Order
pub mod Pairs
pub mod Marks
pub mod Laying
pub mod Staying
