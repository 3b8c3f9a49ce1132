pub mod Common
pub mod BlockLemmas
pub mod LineLemmas
pub mod OffsetLemmas
pub mod Places
