pub mod Common
pub mod NumberLemmas
pub mod ToldLemmas
