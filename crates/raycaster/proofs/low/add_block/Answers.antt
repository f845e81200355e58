use Rattle.std.proofs.Common.{◌+◌, sym, subst}
use Rattle.ray_ranges.specs.Tables.{Table}
use Rattle.raycaster.proofs.LowLemmas.{HaveParts, IsAdded, all_parts, part_added, part_passed}
use Rattle.raycaster.proofs.low.add_block.Goals as goal
use Rattle.raycaster.proofs.low.add_block.Goals.{then-low-part, else-low-part}

pub loop-part-preserved : goal.loop-part-preserved
loop-part-preserved c =
    let old = c.args.ranges.now in
    let r = c.loop-part.ranges in
    let low = c.low_parts-low.result in
    let b = c.args.key in
    let n = c.loop-part.part in
    elim c.if-low-part.branch [
      | then-low-part w ↦ (
          let e = w.add.ensures in
          let added : IsAdded b n r w.add.new.self = record { wider = record { camera = e.camera; pose = e.pose; kept = e.kept }; covers = e.covers } in
          subst (λ (t : Table). HaveParts old t low b (n + 1)) (sym w.ranges-is) (part_added old r low b n c.loop-part.invariant w.add.new.self added))
      | else-low-part w ↦ subst (λ (t : Table). HaveParts old t low b (n + 1)) (sym w.ranges-is) (part_passed old r low b n c.loop-part.invariant _ w.if-low-part.false)
    ]

pub returns-clause-has : goal.returns-clause-has
returns-clause-has c = all_parts c.args.ranges.now c.loop-part.ranges c.low_parts-low.result c.args.key c.loop-part.part c.loop-part.invariant c.args.block.now c.loop-part-test.false c.low_parts-low.ensures.low
