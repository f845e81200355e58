use Rattle.std.proofs.Common.{◌+◌, ◌≤◌, ◌^◌, arith, ap, ◌∙◌}
use Rattle.std.specs.FinMap.{contains_key, insert}
use Rattle.std.specs.FinSet.{contains}
use Rattle.voxel_block.specs.Chunks.{chunk_of}
use Rattle.chunk_store.specs.Store.{Stored}
use Rattle.chunk_store.proofs.Bounds.{few_blocks}
use Rattle.chunk_store.proofs.Stores.{Put, block_put, is_there, nothing_there}
use Rattle.chunk_store.proofs.store.ChunkStore.put_reserved.Goals as goal
use Rattle.chunk_store.proofs.store.ChunkStore.put_reserved.Goals.{After-self-1}

pub put-requires-clause-opened : goal.put-requires-clause-opened
put-requires-clause-opened c = is_there c.self.inside.rows.entries (chunk_of c.args.key) (ap (λ (s : Stored). contains s.opened (chunk_of c.args.key)) c.self.view_is ∙ c.requires.opened)

pub put-requires-clause-vacant : goal.put-requires-clause-vacant
put-requires-clause-vacant c = nothing_there c.self.inside.rows.entries c.args.key c.self.inside.count c.self.invariant (ap (λ (s : Stored). contains_key s.contents c.args.key) c.self.view_is ∙ c.requires.vacant)

pub overflow_add-self : goal.overflow_add-self
overflow_add-self c = let l : c.self.inside.count ≤ 2 ^ 48 + 1 = few_blocks c.self.inside.rows.entries c.self.inside.count c.self.invariant in omega arith

put : (c : After-self-1) → Put c.self.inside.rows.entries c.args.key c.args.packed c.self.inside.count c.put.new.rows.entries
put c =
    block_put c.self.inside.rows.entries c.args.key c.args.packed c.self.inside.count c.put.new.rows.entries c.self.invariant c.put.ensures.short
    (ap (λ (s : Stored). contains_key s.contents c.args.key) c.self.view_is ∙ c.requires.vacant)
    (is_there c.self.inside.rows.entries (chunk_of c.args.key) (ap (λ (s : Stored). contains s.opened (chunk_of c.args.key)) c.self.view_is ∙ c.requires.opened))
    c.put.ensures.written

pub invariant_of-self : goal.invariant_of-self
invariant_of-self c = (put c).store

pub returns : goal.returns
returns c = (λ i. record { contents = (put c).contents i; opened = (put c).opened i }) ∙ ap (λ (s : Stored). record { contents = insert s.contents c.args.key c.args.packed; opened = s.opened }) c.self.view_is
