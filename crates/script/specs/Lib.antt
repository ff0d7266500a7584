pub mod Words
pub mod Parse
pub mod Lines
pub mod Show
pub mod Back
