pub mod Sentences
pub mod Looks
pub mod Steps
pub mod Accounts
pub mod Kept
