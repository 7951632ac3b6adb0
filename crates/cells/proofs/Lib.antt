pub mod Order
pub mod Search
pub mod Words
pub mod Around
pub mod Places
