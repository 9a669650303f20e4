pub mod PathLemmas
pub mod Around
pub mod MarkLemmas
