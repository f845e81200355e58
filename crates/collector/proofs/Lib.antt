pub mod EmptyLemmas
mod CheckLemmas
