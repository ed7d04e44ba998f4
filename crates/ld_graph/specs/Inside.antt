pub mod Kept
pub mod Searching
pub mod TakingOver
pub mod Tables
