pub mod Bits
pub mod Pages
pub mod Places
pub mod Rows
pub mod WordTable
