pub mod Ring
pub mod Bits
pub mod Gaps
pub mod Sending
pub mod Rings
