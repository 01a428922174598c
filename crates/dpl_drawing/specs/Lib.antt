pub mod Named
pub mod Faces
pub mod Marks
pub mod Drawn
