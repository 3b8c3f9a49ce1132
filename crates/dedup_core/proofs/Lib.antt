pub mod Common
pub mod ColumnLemmas
pub mod InputLemmas
pub mod OrderLemmas
pub mod RunLemmas
pub mod SeenLemmas
pub mod TallyLemmas
pub mod UnreadLemmas
mod AheadLemmas
pub mod Lemmas
