mod Runs
mod Splits
mod Reading
mod Uniqueness
mod Fronts
mod Finding
mod Filter
mod Checking
