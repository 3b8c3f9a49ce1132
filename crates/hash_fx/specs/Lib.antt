pub mod Fx
pub mod FxLaws
pub mod FxStepLaws
pub mod Pieces
