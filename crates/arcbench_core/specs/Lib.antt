pub mod Line
pub mod Script
pub mod Program
pub mod Threads
pub mod TokenLines
