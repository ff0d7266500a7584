pub mod Housing
pub mod Searches
pub mod Lodging
