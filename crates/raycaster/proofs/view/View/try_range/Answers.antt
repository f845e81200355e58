use Rattle.std.proofs.Common.{◌≡◌, ℕ, ◌+◌, ◌-◌, ◌<◌, ◌≤◌, ◌∙◌, inl, inr, ◌⊎◌, false, max, min, refl, sym, subst, arith}
use Rattle.std.proofs.Math.Nat.{le-max_left, le-max_right, min-le_left, min-le_right}
use Rattle.std.specs.Prelude.{Option, Some, None, is_some}
use Rattle.ray_walk.specs.Points.{point_count}
use Rattle.ray_ranges.specs.declared.point_range.PointRange.{PointRange}
use Rattle.ray_ranges.specs.Tiles.{HasPoint}
use Rattle.raycaster.specs.Views.{scene_of_view}
use Rattle.raycaster.proofs.TryLemmas.{none_left, past_min, trial_hit, trial_none}
use Rattle.raycaster.proofs.view.View.try_range.Goals as goal

-- a point that is tried is one of the range and of the walk
record IsTried (r : PointRange) (count j : ℕ) : Type 0 where
  follows : j ≡ j - 1 + 1
  inside : j < count
  at : HasPoint r j

is_tried : (r : PointRange) (count first last low high j : ℕ) → first ≡ r.first → last ≡ r.last → low ≡ max first 1 → high ≡ min (last + 1) count → low ≤ j → j < high → IsTried r count j
is_tried r count first last low high j f l a b least most =
    let l1 : first ≤ max first 1 = le-max_left first 1 in
    let l2 : 1 ≤ max first 1 = le-max_right first 1 in
    let m1 : min (last + 1) count ≤ last + 1 = min-le_left (last + 1) count in
    let m2 : min (last + 1) count ≤ count = min-le_right (last + 1) count in
    record {
      follows = omega (arith, a, least, l2);
      inside = omega (arith, b, most, m2);
      at = record { first_low = omega (arith, f, a, least, l1); last_high = omega (arith, l, b, most, m1) };
    }

gone : (o : Option ℕ) → is_some o ≡ false → o ≡ None
gone None e = refl
gone (Some x) e = absurd (cc)

pub returns-then-is_some-clause-some : goal.returns-then-is_some-clause-some
returns-then-is_some-clause-some c x e =
    let s = scene_of_view c.args.self.now in
    let j = c.loop-j.j in
    let t = is_tried c.args.range c.args.self.now.count c.from.result c.from-2.result c.max-j.result c.min-j-end.result c.loop-j.j c.from.ensures c.from-2.ensures c.max-j.ensures c.min-j-end.ensures c.loop-j.auto.j c.loop-j-test.true in
    trial_hit s c.args.u c.args.v c.args.range (j - 1) j t.follows (subst (λ n. j < n) c.args.self.now.points t.inside) c.loop-j.invariant.none c.try_point-trial.result.sample x c.try_point-trial.ensures.sample e t.at

pub loop-j-preserved : goal.loop-j-preserved
loop-j-preserved c =
    let s = scene_of_view c.args.self.now in
    let j = c.loop-j.j in
    let t = is_tried c.args.range c.args.self.now.count c.from.result c.from-2.result c.max-j.result c.min-j-end.result c.loop-j.j c.from.ensures c.from-2.ensures c.max-j.ensures c.min-j-end.ensures c.loop-j.auto.j c.loop-j-test.true in
    record {
      none = trial_none s c.args.u c.args.v c.args.range (j - 1) j t.follows (subst (λ n. j < n) c.args.self.now.points t.inside) c.loop-j.invariant.none c.try_point-trial.result.sample c.try_point-trial.ensures.sample (gone c.try_point-trial.result.sample (sym c.is_some.ensures ∙ c.if-is_some.false));
      block = c.try_point-trial.ensures.looked_up;
    }

pub returns-clause-none : goal.returns-clause-none
returns-clause-none c e =
    let s = scene_of_view c.args.self.now in
    let j = c.loop-j.j in
    none_left s c.args.u c.args.v c.args.range j c.loop-j.invariant.none (by (past_min (c.from-2.result + 1) c.args.self.now.count j (subst (λ n. n ≤ j) c.min-j-end.ensures c.loop-j-test.false)))
  where
    by : (c.from-2.result + 1 ≤ c.loop-j.j) ⊎ (c.args.self.now.count ≤ c.loop-j.j) → (c.args.range.last + 1 ≤ c.loop-j.j) ⊎ (point_count c.args.self.now.walks.fields ≤ c.loop-j.j)
    by (inl h) = inl (subst (λ n. n + 1 ≤ c.loop-j.j) c.from-2.ensures h)
    by (inr h) = inr (subst (λ n. n ≤ c.loop-j.j) c.args.self.now.points h)
