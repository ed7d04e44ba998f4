pub mod Names
pub mod BookLemmas
pub mod ChainsLemmas
pub mod JournalLemmas
