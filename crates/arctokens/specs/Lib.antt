pub mod Pieces
pub mod Runs
pub mod Shares
pub mod SliceLists
pub mod Tokens
pub mod Words
