mod Names
mod WorkedExamples
pub mod LawsOfBlocks
pub mod LawsOfHistories
pub mod OneBlock
