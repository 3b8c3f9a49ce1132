pub mod Line
pub mod Program
pub mod Running
pub mod Status
