use Rattle.std.proofs.Common.{◌≡◌, ◌++◌}
use Rattle.std.specs.Prelude.{filter}
use Rattle.camera.specs.Cameras.{is_active}
use Rattle.chunk_store.specs.Store.{AreOfChunks, all_keys}
use Rattle.chunk_store.proofs.rows.active_keys.Given as goal

-- the keys so far, and those of the rows still to come, each of its chunk
abbrev pub invariant-loop-chunk : goal.invariant-loop-chunk
invariant-loop-chunk l = record { keys : l.keys.items ++ filter (is_active l.camera l.pose) (all_keys l.chunk-iterator) ≡ filter (is_active l.camera l.pose) (all_keys l.rows.entries); rest : AreOfChunks l.chunk-iterator }
