pub mod Views
pub mod Noting
pub mod Parties
