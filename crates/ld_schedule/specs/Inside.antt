-- How the code does it. Nobody has to believe these.
pub mod HistoryTables
pub mod Progress
pub mod ReadLines
pub mod Replaying
pub mod Closing
pub mod Stored
