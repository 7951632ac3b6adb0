mod Spelling
mod Splits
mod Inside
mod Flaws
