pub mod Readers
pub mod Forms
pub mod Bounds
pub mod Figures
pub mod Rules
pub mod Answers
