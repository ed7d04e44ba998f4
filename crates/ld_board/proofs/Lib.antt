pub mod Names
pub mod Gather
pub mod WordLists
pub mod Moves
pub mod SeatLists
pub mod SeatFacts
