-- What is due for each command whose texts are within their limits on bytes.
pub mod Made
pub mod Check
pub mod Cross
pub mod Edit
pub mod Load
