pub mod Order
pub mod Used
