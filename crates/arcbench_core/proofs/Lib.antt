pub mod AnsweredLines
pub mod KnownUtf8
pub mod LineTexts
pub mod TokensPrinted
pub mod WorkedExamples
