pub mod Area
pub mod Words
pub mod Located
pub mod Kept
pub mod Going
