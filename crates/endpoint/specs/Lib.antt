pub mod Refusals
pub mod Stands
pub mod Steps
pub mod Calls
pub mod Saying
pub mod AsCode
pub mod Hearing
