pub mod Plain
pub mod ReportLines
pub mod Valid
pub mod Reading
pub mod Laws
