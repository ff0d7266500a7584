pub mod Linear
pub mod Runs
pub mod Bounds
pub mod Steps
pub mod Apart
