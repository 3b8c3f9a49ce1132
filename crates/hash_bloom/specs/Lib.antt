pub mod Commands
pub mod Estimate
pub mod File
pub mod Filter
