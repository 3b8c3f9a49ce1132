pub mod Common
pub mod RangeLemmas
pub mod AdvanceLemmas
pub mod SecretLemmas
