pub mod Pieces
pub mod Runs
pub mod SliceLists
pub mod TextWords
pub mod WorkedExamples
