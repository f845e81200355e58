use Rattle.std.proofs.Common.{ap, ◌∙◌}
use Rattle.chunk_store.specs.Store.{Stored, held_of}
use Rattle.chunk_store.proofs.AllBlocks.{blocks_apart, blocks_bound, blocks_contents}
use Rattle.chunk_store.proofs.store.ChunkStore.blocks.Goals as goal

pub returns-clause-distinct : goal.returns-clause-distinct
returns-clause-distinct c = blocks_apart c.self.inside.rows.entries c.self.inside.count c.of.result c.self.invariant (c.of.ensures ∙ ap held_of c.iter.ensures.rest)

pub returns-clause-contents : goal.returns-clause-contents
returns-clause-contents c = blocks_contents c.self.inside.rows.entries c.of.result (c.of.ensures ∙ ap held_of c.iter.ensures.rest) ∙ ap (λ (s : Stored). s.contents) c.self.view_is

pub returns-clause-bound : goal.returns-clause-bound
returns-clause-bound c = blocks_bound c.self.inside.rows.entries c.self.inside.count c.of.result c.self.invariant (c.of.ensures ∙ ap held_of c.iter.ensures.rest)
