use Rattle.std.proofs.Common.{◌≡◌, ◌+◌, refl, arith}
use Rattle.std.specs.Prelude.{option_to_list}
use Rattle.std.proofs.Common.{ap, ◌∙◌, ◌++◌}
use Rattle.session.specs.Fold.{known_at}
use Rattle.session.proofs.KnownLemmas.{left_in, left_next, left_none, pushed, all_pushed}
use Rattle.session.proofs.known.push_block.Goals as goal

pub loop-i-init : goal.loop-i-init
loop-i-init c = record { left = refl; counted = λ h. absurd (omega arith) }

pub loop-i-preserved : goal.loop-i-preserved
loop-i-preserved c = record {
  left = pushed c.loop-i.known.items c.push_voxel.new.known.items (option_to_list (known_at c.args.key c.loop-i.i c.get.result)) (left_in c.args.key c.args.block.now (c.loop-i.i + 1)) (left_in c.args.key c.args.block.now c.loop-i.i) _
      (left_next c.args.key c.args.block.now c.loop-i.i c.get.result c.get.ensures.value)
      (c.in_ok-push_voxel.ensures ∙ ap (λ o. c.loop-i.known.items ++ option_to_list o) c.known_at.ensures) c.loop-i.invariant.left;
  counted = λ _. c.get.ensures.count;
}

pub returns : goal.returns
returns c =
    let e : c.loop-i.i ≡ 512 = (let b = c.loop-i-test.false in omega arith) in
    all_pushed c.loop-i.known.items _ _ (left_none c.args.key c.args.block.now c.loop-i.i e (c.loop-i.invariant.counted (omega arith))) c.loop-i.invariant.left
