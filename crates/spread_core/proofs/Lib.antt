pub mod Common
pub mod CollisionLemmas
pub mod CountLemmas
pub mod FoundLemmas
pub mod KeyLemmas
pub mod NamedLemmas
