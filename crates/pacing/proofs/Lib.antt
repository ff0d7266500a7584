pub mod Waiting
pub mod Saying
pub mod Waking
pub mod Moments
pub mod Sixteen
