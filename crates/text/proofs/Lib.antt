mod Steps
mod Octets
mod Choosing
pub mod Rounds
pub mod Inverse
