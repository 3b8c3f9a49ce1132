pub mod Common
pub mod Pairs
pub mod Changes
pub mod Tables
pub mod Runs
pub mod Empty
