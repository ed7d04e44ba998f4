pub mod Machine
pub mod Placing
pub mod OpenFrames
pub mod ChainEqualityLaws
