pub mod Measure
pub mod Opening
pub mod Flight
pub mod Enough
