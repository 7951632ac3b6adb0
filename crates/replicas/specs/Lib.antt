pub mod History
pub mod Latest
pub mod Answers
pub mod Stands
pub mod Promise
