pub mod Cuts
pub mod Numerals
pub mod Widths
pub mod Decimals
pub mod Fronts
