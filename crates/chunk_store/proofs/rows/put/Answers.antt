use Rattle.std.proofs.Common.{◌≡◌, ap, ◌∙◌}
use Rattle.std.specs.Prelude.{Some}
use Rattle.std.specs.Option.{option_and_then}
use Rattle.std.specs.Map.{lookup}
use Rattle.voxel_block.specs.Chunks.{chunk_of}
use Rattle.voxel_block.specs.declared.chunk.ChunkKey.{ChunkKey}
use Rattle.chunk_store.specs.Rows.{bytes_in, chunk_eq, held_at, place_of}
use Rattle.chunk_store.proofs.Counts.{no_block}
use Rattle.chunk_store.proofs.rows.put.Goals as goal

pub put-requires-clause-vacant : goal.put-requires-clause-vacant
put-requires-clause-vacant c =
    let row = c.in-Some.row.now in
    let found : Some row ≡ lookup (chunk_eq (chunk_of c.args.key)) c.args.rows.now.entries = c.in-Some.ensures.value ∙ ap (λ (q : ChunkKey). lookup (chunk_eq q) c.args.rows.now.entries) c.chunk.ensures in
    ap (held_at row) c.place_of-place.ensures.value ∙ no_block (held_at row (place_of c.args.key)) (ap (option_and_then (λ r. bytes_in r c.args.key)) found ∙ c.requires.vacant)
