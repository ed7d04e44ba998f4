pub mod BoardRule
pub mod Gathered
