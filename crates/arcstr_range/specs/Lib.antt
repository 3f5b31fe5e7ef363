pub mod Ends
pub mod Matches
pub mod Pieces
pub mod Text
pub mod Trim
pub mod View
