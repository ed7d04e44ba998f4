-- What holds of all texts: equal facts have equal findings, and what is said of them the same.
pub mod Findings
pub mod Picture
pub mod Report
pub mod WriteFaults
