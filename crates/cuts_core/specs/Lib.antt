pub mod Sizes
pub mod Cut
pub mod Listing
pub mod Tally
pub mod Counted
pub mod Program
