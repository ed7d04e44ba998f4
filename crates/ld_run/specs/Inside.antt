pub mod Crews
pub mod Walks
pub mod Walked
pub mod KnownSteps
