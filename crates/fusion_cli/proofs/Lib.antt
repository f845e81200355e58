mod RunLemmas
pub mod CommandLemmas
