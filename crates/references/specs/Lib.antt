pub mod Xml
pub mod Decoding
pub mod Answers
