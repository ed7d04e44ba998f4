pub mod Names
pub mod AheadLemmas
pub mod AreReadLemmas
