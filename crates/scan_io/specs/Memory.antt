-- What contracts see of a source and a sink over memory.
use Rattle.std.specs.Prelude.{ℕ, ◌+◌, ◌-◌, ◌^◌, min, List}

-- the bytes still to come, the most bytes a call, the numbers of the calls that fail, the number of the next call, and the count of faults
pub record Supply : Type 0 where
  pub left : List ℕ
  pub piece : ℕ
  pub fails : List ℕ
  pub calls : ℕ
  pub faults : ℕ

-- the bytes taken, the most bytes in all and a call, and the rest as in a supply
pub record Store : Type 0 where
  pub taken : List ℕ
  pub room : ℕ
  pub piece : ℕ
  pub fails : List ℕ
  pub calls : ℕ
  pub faults : ℕ

-- the number of the next call; it saturates far above every number of 64 bits
abbrev pub call_after : ℕ → ℕ
call_after call = min (call + 1) (2 ^ 128 - 1)
