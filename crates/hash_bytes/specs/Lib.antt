pub mod CountedSum
pub mod Fnv
pub mod FnvLaws
pub mod Oz
pub mod OzLaws
pub mod Pigeon
pub mod PigeonLaws
