pub mod Inside
pub mod Faults
pub mod Runs
pub mod Settling
pub mod Tallies
pub mod Condensing
pub mod Work
