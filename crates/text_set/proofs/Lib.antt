pub mod Common
pub mod LineLemmas
pub mod SetLemmas
pub mod SlotLemmas
pub mod StoreLemmas
pub mod TextMapLemmas
