pub mod Agreement
pub mod Keeping
pub mod Replay
