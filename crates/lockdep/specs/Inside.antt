pub mod CondensedFaults
pub mod Requests
pub mod Sources
pub mod Tangled
