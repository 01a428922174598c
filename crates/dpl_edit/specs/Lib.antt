pub mod Contents
pub mod Optima
pub mod Sessions
