use Rattle.std.proofs.Common.{◌≡◌, ◌∙◌, refl, subst, sym, arith}
use Rattle.std.specs.Prelude.{ℤ, pos, ◌+ℤ◌, ◌-ℤ◌, ◌*ℤ◌}
use Rattle.std.proofs.lemmas.Int.{to_z-of_z, ints}
use mir.Val.{to_z, of_z}
use mir.Syntax.{w64}
use Rattle.fixed_geom.specs.Vectors.{IsWithin}
use Rattle.fixed_geom.specs.Division.{floor_div}
use Rattle.band_walk.proofs.Machine.{sum_fits, sum_same}
use Rattle.band_walk.proofs.SampleLemmas.{sample_axis_within}
use Rattle.band_walk.proofs.segment.sample_axis.Goals as goal

steps_offset : (c : goal.After-share) → ℤ
steps_offset c = floor_div (pos c.args.j *ℤ (c.args.end -ℤ c.args.start)) (pos c.args.n)

quotient : (c : goal.After-share) → c.share.result ≡ steps_offset c
unfolding steps_offset
quotient c =
    let offset : to_z w64 (of_z w64 c.offset_by_steps.result) ≡ pos c.args.j *ℤ (c.args.end -ℤ c.args.start) = to_z-of_z w64 c.offset_by_steps.result (record { sfits = c.offset_by_steps.type_inv }) ∙ c.offset_by_steps.ensures.value ∙ rw (to_z-of_z w64 c.args.start c.ranges.start, to_z-of_z w64 c.args.end c.ranges.end) refl in
    c.share.ensures ∙ rw offset refl

within : (c : goal.After-share) → IsWithin (pos 151006226) (c.args.start +ℤ steps_offset c)
unfolding steps_offset
within c =
    let r = c.requires in
    sample_axis_within (pos 151006226) c.args.start c.args.end (pos c.args.n) (pos c.args.j) (omega (arith, ints)) (omega (arith, ints)) (omega (arith, ints)) r.start r.end

pub overflow_add-result : goal.overflow_add-result
overflow_add-result c = sum_fits c.args.start c.share.result (steps_offset c) (quotient c) c.requires.start (within c)

same : (c : goal.After-share) → to_z w64 (of_z w64 (to_z w64 (of_z w64 c.args.start) +ℤ to_z w64 (of_z w64 c.share.result))) ≡ c.args.start +ℤ steps_offset c
same c = sum_same c.args.start c.share.result (steps_offset c) (quotient c) c.requires.start (within c)

pub returns-clause-value : goal.returns-clause-value
unfolding steps_offset
returns-clause-value c = same c

pub returns-clause-bound : goal.returns-clause-bound
returns-clause-bound c = subst (IsWithin (pos 151006226)) (sym (same c)) (within c)
