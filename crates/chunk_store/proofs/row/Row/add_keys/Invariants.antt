use Rattle.std.proofs.Common.{◌≡◌, ◌++◌, drop}
use Rattle.chunk_store.specs.Rows.{keys_in}
use Rattle.chunk_store.proofs.row.Row.add_keys.Given as goal

-- the keys so far, and those of the places still to come
abbrev pub invariant-loop-place : goal.invariant-loop-place
invariant-loop-place l = l.keys.items ++ keys_in (drop l.place-index l.place-items) ≡ l.fn.keys.items ++ keys_in l.place-items
