use Rattle.std.proofs.Common.{◌≡◌, ◌+◌, refl, arith, ap, ◌∙◌}
use Rattle.voxel_block.specs.Packing.{voxels_in}
use Rattle.session.specs.Fold.{known_at}
use Rattle.session.specs.Sums.{added_if}
use Rattle.session.proofs.KnownLemmas.{left_in, left_next, left_none}
use Rattle.session.proofs.SumLemmas.{summed_if, all_summed}
use Rattle.session.proofs.totals.with_packed.Goals as goal

pub loop-i-init : goal.loop-i-init
loop-i-init c = record { left = refl; sum = c.requires.sum; few = omega arith; counted = λ h. absurd (omega arith) }

pub loop-i-preserved : goal.loop-i-preserved
loop-i-preserved c =
    let old = c.loop-i.invariant.few in
    let more = c.with_voxel-result.ensures.few in record {
      left = summed_if c.loop-i.result c.with_voxel-result.result (known_at c.args.key c.loop-i.i c.get.result) (left_in c.args.key (voxels_in c.args.packed.now) (c.loop-i.i + 1)) (left_in c.args.key (voxels_in c.args.packed.now) c.loop-i.i) _
          (left_next c.args.key (voxels_in c.args.packed.now) c.loop-i.i c.get.result c.get.ensures.value)
          (c.with_voxel-result.ensures.value ∙ ap (added_if c.loop-i.result) c.known_at.ensures) c.loop-i.invariant.left;
      sum = c.with_voxel-result.ensures.sum;
      few = omega (arith, old, more);
      counted = λ _. c.get.ensures.count;
    }

pub returns-clause-value : goal.returns-clause-value
returns-clause-value c =
    let e : c.loop-i.i ≡ 512 = (let b = c.loop-i-test.false in omega arith) in
    all_summed c.loop-i.result _ _ (left_none c.args.key (voxels_in c.args.packed.now) c.loop-i.i e (c.loop-i.invariant.counted (omega arith))) c.loop-i.invariant.left
