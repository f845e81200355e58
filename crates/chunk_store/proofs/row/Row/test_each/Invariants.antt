use Rattle.std.proofs.Common.{◌≡◌, ◌++◌, drop}
use Rattle.std.specs.Prelude.{filter}
use Rattle.camera.specs.Cameras.{is_active}
use Rattle.chunk_store.specs.Rows.{keys_in}
use Rattle.chunk_store.proofs.row.Row.test_each.Given as goal

-- the keys so far, and those of the places still to come
abbrev pub invariant-loop-place : goal.invariant-loop-place
invariant-loop-place l = l.keys.items ++ filter (is_active l.camera l.pose) (keys_in (drop l.place-index l.place-items)) ≡ l.fn.keys.items ++ filter (is_active l.camera l.pose) (keys_in l.place-items)
