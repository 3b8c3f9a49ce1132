pub mod Named
pub use Rattle.hash_laws.specs.Limited
