pub mod Memory
pub mod Ends
pub mod Users
pub mod AsCode
pub mod Sayings
pub mod Hearings
pub mod Leaving
