pub mod Firsts
pub mod Keyed
pub mod Lines
pub mod Slots
pub mod Store
pub mod Texts
pub mod TextMaps
