pub mod Marking
pub mod QuoteLemmas
pub mod PairLemmas
