use Rattle.std.proofs.Common.{ap, ◌∙◌}
use Rattle.std.specs.Prelude.{filter}
use Rattle.std.specs.FinMap.{keys}
use Rattle.camera.specs.Cameras.{is_active}
use Rattle.chunk_store.specs.Store.{Stored}
use Rattle.chunk_store.proofs.Listing.{of_chunks, sorted_keys}
use Rattle.chunk_store.proofs.store.ChunkStore.keys_active.Goals as goal

pub active_keys-requires : goal.active_keys-requires
active_keys-requires c = of_chunks c.self.inside.rows.entries c.self.inside.count c.self.invariant

pub returns : goal.returns
returns c =
    let p = is_active c.args.camera.now c.args.pose.now in
    sorted_keys p c.self.inside.rows.entries c.self.inside.count c.in_ok-keys.keys.items c.sort_unstable.new.self.items c.self.invariant c.in_ok-keys.ensures c.sort_unstable.ensures.permutation c.sort_unstable.ensures.sorted
    ∙ ap (λ (s : Stored). filter p (keys s.contents)) c.self.view_is
