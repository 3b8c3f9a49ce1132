pub mod Common
pub mod PartLemmas
pub mod WordLemmas
pub mod FourWords
pub mod SipCommon
pub mod BackLemmas
pub mod SipWords
