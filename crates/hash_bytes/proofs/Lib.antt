pub mod Common
pub mod LastBytes
pub mod Joined
