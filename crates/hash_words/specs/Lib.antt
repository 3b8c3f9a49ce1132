pub mod Pieces
pub mod Put
pub mod Words
pub mod Undoes
