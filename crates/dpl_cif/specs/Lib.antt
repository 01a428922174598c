pub mod Drawn
pub mod Reading
pub mod Gives
pub mod Laws
pub mod Scopes
pub mod OnCells
