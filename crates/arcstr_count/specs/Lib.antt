pub mod Model
pub mod Word
pub mod Answer
pub mod Faults
pub mod Laws
pub mod OneBlock
