pub mod Behind
pub mod Took
pub mod Digits
pub mod Trip
pub mod Cuts
pub mod Damage
pub mod Independent
pub mod Seam
