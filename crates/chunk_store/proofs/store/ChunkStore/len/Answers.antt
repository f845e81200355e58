use Rattle.std.proofs.Common.{◌≤◌, ◌+◌, ◌^◌, ap, ◌∙◌, arith}
use Rattle.std.specs.FinMap.{len}
use Rattle.chunk_store.specs.Store.{Stored}
use Rattle.chunk_store.proofs.Bounds.{few_blocks}
use Rattle.chunk_store.proofs.store.ChunkStore.len.Goals as goal

pub returns-clause-value : goal.returns-clause-value
returns-clause-value c = c.self.invariant.count ∙ ap (λ (s : Stored). len s.contents) c.self.view_is

pub returns-clause-bound : goal.returns-clause-bound
returns-clause-bound c = let l : c.self.inside.count ≤ 2 ^ 48 + 1 = few_blocks c.self.inside.rows.entries c.self.inside.count c.self.invariant in omega arith
