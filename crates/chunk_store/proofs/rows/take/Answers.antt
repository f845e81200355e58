use Rattle.std.proofs.Common.{◌≡◌, ap, ◌∙◌}
use Rattle.std.specs.Prelude.{Some, None, Option}
use Rattle.std.specs.Map.{lookup}
use Rattle.voxel_block.specs.Chunks.{chunk_of}
use Rattle.voxel_block.specs.declared.chunk.ChunkKey.{ChunkKey}
use Rattle.chunk_store.specs.Rows.{Row, chunk_eq}
use Rattle.chunk_store.proofs.rows.take.Goals as goal

pub returns-clause-unchanged : goal.returns-clause-unchanged
returns-clause-unchanged c none =
    let found : Some c.in_ok-get_mut.field-0.now ≡ lookup (chunk_eq (chunk_of c.args.key)) c.args.rows.now.entries = c.in_ok-get_mut.ensures.value ∙ ap (λ (q : ChunkKey). lookup (chunk_eq q) c.args.rows.now.entries) c.chunk.ensures in
    let z : ◌≡◌ {A = Option Row} (Some c.in_ok-get_mut.field-0.now) None = found ∙ none in
    absurd (cc)
