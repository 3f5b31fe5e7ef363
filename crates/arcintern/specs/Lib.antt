pub mod Lends
pub mod Serde
pub mod Slots
pub mod TextList
pub mod Texts
pub mod Values
pub mod Words
