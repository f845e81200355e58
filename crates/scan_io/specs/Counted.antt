-- What contracts see of a source over a reader and of a sink over a writer.
use Rattle.std.specs.Prelude.{ℕ}

-- a reader or a writer, and how often it failed
pub record Counted (A : Type 0) : Type 0 where
  pub inner : A
  pub faults : ℕ
