pub mod Digits
pub mod Names
pub mod Pieces
pub mod Reading
pub mod Passes
pub mod Texts
