pub mod Common
pub mod GearLemmas
pub mod CutLemmas
pub mod ChunkLemmas
pub mod EndLemmas
pub mod InStep
pub mod JoinedEnds
pub mod GivenLemmas
