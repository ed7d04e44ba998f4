pub mod Joined
pub mod Tokens
pub mod Turning
