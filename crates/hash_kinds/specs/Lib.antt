pub mod Named
pub mod Wide
