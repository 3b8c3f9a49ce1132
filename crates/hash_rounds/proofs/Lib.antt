pub mod Common
pub mod StepLemmas
pub mod RoundLemmas
pub mod ShuffleLemmas
pub mod BlockLemmas
pub mod SumLemmas
