pub mod Text
pub mod Clock
pub mod Next
pub mod Tick
pub mod Promises
pub mod Moment
pub mod UnderWay
