pub mod Names
pub mod CondensedLemmas
pub mod FaultLemmas
pub mod ProgramLemmas
pub mod TypeLemmas
pub mod WhereaboutsLemmas
