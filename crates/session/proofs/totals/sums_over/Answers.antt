use Rattle.std.proofs.Common.{ap, ◌∙◌}
use Rattle.std.specs.List.{fold}
use Rattle.std.specs.FinMap.{entries}
use Rattle.block_heap.specs.Cells.{Cells}
use Rattle.chunk_store.specs.Store.{Stored}
use Rattle.streamer.specs.Owners.{owned_blocks}
use Rattle.session.specs.Sums.{nothing, with_known, with_packed_known}
use Rattle.session.proofs.SumLemmas.{summed_places}
use Rattle.session.proofs.totals.sums_over.Goals as goal

pub returns : goal.returns
returns c =
    let s = c.sums_in.result in
    c.with_store.ensures ∙ ap (λ (u : Stored). fold with_packed_known s (entries u.contents)) c.store.ensures.value
    ∙ summed_places c.args.rest.now s c.store.ensures.placed (c.sums_in.ensures.value ∙ ap (λ (h : Cells). fold with_known nothing (owned_blocks h.cells)) c.heap.ensures.value)
