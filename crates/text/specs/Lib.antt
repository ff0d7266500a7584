pub mod Fronts
pub mod Data
pub mod Back
pub mod Words
