pub mod Words
pub mod Boxes
pub mod Reading
pub mod Steps
pub mod Promise
