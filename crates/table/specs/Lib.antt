pub mod Housed
pub mod Search
pub mod Grows
pub mod Lodges
