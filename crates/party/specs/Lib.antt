pub mod Looks
pub mod Plays
pub mod Faults
