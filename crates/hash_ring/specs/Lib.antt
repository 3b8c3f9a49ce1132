pub mod Ring
pub mod Points
