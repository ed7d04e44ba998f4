pub mod Inside
pub mod Faults
pub mod Books
