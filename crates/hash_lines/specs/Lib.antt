pub mod Escape
pub mod Line
pub mod Sums
pub mod Told
pub mod Forms
