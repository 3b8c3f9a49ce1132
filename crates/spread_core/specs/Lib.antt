pub mod Call
pub mod Counts
pub mod Keys
pub mod Named
pub mod Table
