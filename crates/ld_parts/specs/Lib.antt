pub mod Inside
pub mod Ranks
pub mod FoundInParts
pub mod Laws
