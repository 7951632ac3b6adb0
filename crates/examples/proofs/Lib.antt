pub mod IdPastPalette
