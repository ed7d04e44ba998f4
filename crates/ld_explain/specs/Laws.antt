-- What holds of all findings (equal facts have equal ones), of lists, and of names at a level.
pub mod Findings
pub mod Found
pub mod Lists
pub mod Verdicts
pub mod Settling
