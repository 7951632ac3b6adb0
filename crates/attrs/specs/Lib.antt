pub mod Bytes
pub mod Grammar
pub mod Flaws
pub mod Items
pub mod Seen
pub mod Refusals
