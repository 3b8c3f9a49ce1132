pub mod Common
pub mod Lookup3Lemmas
pub mod MixLemmas
pub mod WriteLemmas
pub mod FilledLemmas
pub mod ZeroLemmas
