use Rattle.std.proofs.Common.{◌≡◌, ℕ, ◌+◌, ◌%◌, ℤ, ap, subst, arith, rules}
use Rattle.std.specs.Int.{w16}
use Rattle.std.proofs.lemmas.Int.{to_z-of_z}
use Rattle.voxel_block.specs.declared.voxel.Voxel.{Voxel}
use Rattle.voxel_block.proofs.Blocks.{IsChangedTo, changed_none, changed_more, changed_all}
use Rattle.voxel_block.proofs.tests.weigh.Goals as goal

abbrev weighed : ℕ → Voxel → Voxel
weighed i v = record { f = v.f; w = i % 255 + 1 }

pub loop-i-init : goal.loop-i-init
loop-i-init c = changed_none weighed 512 c.args.block.now

pub loop-i-preserved : goal.loop-i-preserved
loop-i-preserved c =
    changed_more weighed 512 c.args.block.now c.loop-i.block c.set.new.self c.loop-i.i c.get-f.result _ c.loop-i.invariant c.get-f.ensures.value c.get-f.ensures.count
    (ap (λ (f : ℤ). record { f = f; w = c.loop-i.i % 255 + 1 }) (to_z-of_z w16 c.get-f.result.f (search rules))) c.set.ensures

pub returns : goal.returns
returns c =
    let e : c.loop-i.i ≡ 512 = omega arith in
    changed_all weighed 512 c.args.block.now c.loop-i.block (omega arith) (subst (IsChangedTo weighed 512 c.args.block.now c.loop-i.block) e c.loop-i.invariant)
