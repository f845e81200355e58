use Rattle.std.proofs.Common.{ap, ◌∙◌}
use Rattle.std.specs.FinMap.{keys}
use Rattle.chunk_store.specs.Store.{Stored}
use Rattle.chunk_store.proofs.Listing.{sorted_all}
use Rattle.chunk_store.proofs.store.ChunkStore.keys.Goals as goal

pub returns : goal.returns
returns c =
    sorted_all c.self.inside.rows.entries c.self.inside.count c.in_ok-keys.keys.items c.sort_unstable.new.self.items c.self.invariant c.in_ok-keys.ensures c.sort_unstable.ensures.permutation c.sort_unstable.ensures.sorted
    ∙ ap (λ (s : Stored). keys s.contents) c.self.view_is
