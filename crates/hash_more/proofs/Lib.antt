pub mod JoaatLemmas
pub mod Crc32Common
pub mod Crc32Endings
pub mod Crc32Lemmas
pub mod Crc32Products
pub mod Crc32Texts
