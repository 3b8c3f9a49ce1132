pub mod Gear
pub mod Cuts
pub mod Reading
