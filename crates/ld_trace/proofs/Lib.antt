pub mod Names
pub mod CsvLemmas
pub mod FieldLemmas
mod ClassLemmas
pub mod LastHash
pub mod NameLemmas
pub mod ReadLemmas
pub mod StoredLemmas
pub mod TakenLemmas
pub mod PlainLemmas
mod RowLemmas
mod CutLemmas
mod KnownLemmas
mod WriteLemmas
mod LineLemmas
mod Alike
mod ReadBack
mod TakenIn
mod PieceLemmas
mod Advancing
mod BlockLemmas
mod KnownLines
