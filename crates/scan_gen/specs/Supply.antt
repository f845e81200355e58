-- What contracts see of a source of a generated scan.
use Rattle.std.specs.Prelude.{ℕ, List}

-- the bytes of the present part that are still to come, and those of all parts after it
pub record Supply : Type 0 where
  pub held : List ℕ
  pub later : List ℕ
