-- what a reader must believe
pub mod Pieces
pub mod Components
pub mod Refined
-- what a turned piece wins and loses
pub mod Gains
