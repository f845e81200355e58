mod ConfigLemmas
mod FrontLemmas
mod LineLemmas
mod NumberLemmas
mod ReaderLemmas
pub mod RecordLemmas
mod WordLemmas
mod ReplyLemmas
