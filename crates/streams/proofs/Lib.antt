pub mod HexLemmas
pub mod RecordLemmas
pub mod StreamLemmas
