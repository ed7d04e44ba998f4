pub mod Progress
pub mod ReadLines
pub mod Renumbered
pub mod Stored
pub mod Written
pub mod KnownLines
