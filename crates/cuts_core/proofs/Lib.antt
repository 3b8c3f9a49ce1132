pub mod Common
pub mod CutLemmas
pub mod ListingLemmas
pub mod TallyLemmas
