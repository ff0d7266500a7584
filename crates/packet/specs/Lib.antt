pub mod Sizes
pub mod Packets
pub mod Kinds
pub mod Agreed
pub mod Places
