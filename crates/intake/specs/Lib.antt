pub mod Words
pub mod Desks
pub mod Places
pub mod Order
pub mod Sessions
