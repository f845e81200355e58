use Rattle.std.proofs.Common.{◌≡◌, ◌++◌}
use Rattle.chunk_store.specs.Store.{all_keys}
use Rattle.chunk_store.proofs.rows.keys.Given as goal

-- the keys so far, and those of the rows still to come
abbrev pub invariant-loop-row : goal.invariant-loop-row
invariant-loop-row l = l.keys.items ++ all_keys l.row-iterator ≡ all_keys l.rows.entries
