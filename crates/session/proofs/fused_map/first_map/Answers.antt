use Rattle.std.proofs.Common.{◌+◌, ◌*◌, length, sym, ap, subst, ◌∙◌}
use Rattle.std.proofs.lemmas.List.{length-replicate}
use Rattle.std.specs.Int.{IsPowerOfTwo}
use Rattle.block_heap.specs.declared.cell.Cell.TheVariants.{Free}
use Rattle.voxel_block.specs.Blocks.{new_block}
use Rattle.streamer.specs.Places.{Places}
use Rattle.session.proofs.Powers.{is_power}
use Rattle.session.proofs.StandingLemmas.{settled_start, stands}
use Rattle.session.proofs.fused_map.first_map.Goals as goal

pub make-requires-2-clause-power : goal.make-requires-2-clause-power
make-requires-2-clause-power c = subst IsPowerOfTwo (sym c.buckets.ensures.value) (is_power c.args.config.now.buckets c.buckets.ensures.config.buckets_power)

pub returns-clause-settled : goal.returns-clause-settled
returns-clause-settled c =
    settled_start c.args.config.now c.in_ok-rest.rest c.in_ok-rest.ensures.placed c.in_ok-rest.ensures.blocks
    (ap (λ (p : Places). length p.heap.cells) c.in_ok-rest.ensures.value ∙ length-replicate c.heap_blocks.result (Free new_block) ∙ c.heap_blocks.ensures.value)
    (record { buckets = ap (λ (p : Places). p.table.buckets) c.in_ok-rest.ensures.value ∙ c.buckets.ensures.value; nodes = ap (λ (p : Places). p.table.nodes) c.in_ok-rest.ensures.value ∙ ap (λ n. 2 * n + 65) c.heap_blocks.ensures.value })

pub returns-clause-stands : goal.returns-clause-stands
returns-clause-stands c = stands _ (returns-clause-settled c)
