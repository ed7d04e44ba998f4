pub mod Inside
pub mod Faults
pub mod Views
pub mod Seats
pub mod Boards
pub mod Laws
