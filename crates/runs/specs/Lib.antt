pub mod Marks
pub mod Runs
pub mod Memory
pub mod Written
pub mod Going
