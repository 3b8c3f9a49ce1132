pub mod Common
pub mod KeyLemmas
pub mod WriteLemmas
