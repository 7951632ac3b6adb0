pub mod Fronts
pub mod Powers
pub mod Values
pub mod Long
pub mod Forms
pub mod Scans
pub mod Places
