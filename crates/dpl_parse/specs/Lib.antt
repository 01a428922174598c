pub mod Pieces
pub mod Gives
pub mod Tells
pub mod Items
pub mod Blocks
pub mod Read
pub mod Standing
