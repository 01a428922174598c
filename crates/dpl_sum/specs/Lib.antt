-- what a reader must believe
pub mod Solved
pub mod Laying
pub mod Solving
