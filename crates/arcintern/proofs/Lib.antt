pub mod Lookups
pub mod Readings
pub mod TextPlaces
pub mod Words
