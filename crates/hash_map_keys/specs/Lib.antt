pub mod Numbers
pub mod MapKeys
pub mod KeyState
pub mod Pieces
