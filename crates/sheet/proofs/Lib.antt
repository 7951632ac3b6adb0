pub mod Placing
pub mod Packs
pub mod Walks
pub mod Texts
