pub mod Between
pub mod Inputs
pub mod Program
pub mod Running
pub mod Status
pub mod Taking
pub mod Tallies
