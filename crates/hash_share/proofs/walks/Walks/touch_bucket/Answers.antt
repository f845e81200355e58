use Rattle.std.proofs.Common.{◌≡◌, ◌≢◌, ℕ, ◌+◌, ◌*◌, ◌<◌, length, refl, sym, ap, ◌∙◌, arith, subst}
use Rattle.std.proofs.lemmas.List.{length-set}
use Rattle.spatial_hash.specs.Hash.{home}
use Rattle.spatial_hash.specs.Table.{Table}
use Rattle.fusion_core.specs.TouchWords.{shown, counter_at, Passes}
use Rattle.hash_share.specs.declared.view.View.{View}
use Rattle.hash_share.specs.Steps.{Held, found}
use Rattle.hash_share.proofs.Walking.{sees_none, sees_next, passes_next}
use Rattle.hash_share.proofs.walks.Walks.touch_bucket.Goals as goal

pub loop-i-init : goal.loop-i-init
loop-i-init c = (refl, refl, refl, refl, sees_none c.args.seat.now.me.0, λ a lt. absurd (omega arith))

pub loop-i-preserved : goal.loop-i-preserved
loop-i-preserved c =
    let v : View = c.args.seat.now.me.0 in
    let m : Held = c.loop-i.seat.me in
    let n : Held = c.try_entry-seen.new.seat.me in
    let k : ℕ = c.args.key in
    let h : ℕ = c.args.bucket in
    let i : ℕ = c.loop-i.i in
    let r : ℕ = c.try_entry-seen.result in
    let old = c.loop-i.invariant in
    let some : 0 < r = omega (arith, c.if-seen-eq0.false) in
    let other : r ≢ k = c.if-seen-key.false in
    let is : n ≡ (found k (4 * h + i) r m.0, m.1) = c.try_entry-seen.ensures.lost some in
    let at : h ≡ home v.start.buckets k = c.requires.bucket.0 in
    let buckets : v.start.buckets ≡ c.args.self.now.buckets = ap (λ (t : Table). t.buckets) c.requires.seat.2 ∙ sym c.args.self.now.sizes.0 in
    let wide : length v.seen ≡ counter_at v.start + 1 = c.requires.wide in
    let long : length m.0.seen ≡ length v.seen = old.3 in
    let inside : 4 * h + i < length m.0.seen = omega (arith, c.requires.bucket.1, c.loop-i-test.true) in
    let P : ℕ → ℕ → Held → Type 0 = λ b j q. Passes (shown v.start q.0.seen) k b j in
    let passed : P h (i + 1) n = passes_next v.start k h i r m n is inside (c.try_entry-seen.ensures.kept some) some other (subst (λ (b : ℕ). P b i m) (sym at) old.5) in (
      c.try_entry-seen.ensures.seat.0 ∙ old.0,
      c.try_entry-seen.ensures.seat.1 ∙ old.1,
      ap (λ (q : Held). q.1) is ∙ old.2,
      ap (λ (q : Held). length q.0.seen) is ∙ length-set m.0.seen (4 * h + i) r ∙ long,
      sees_next k (4 * h + i) r v m n old.4 is other,
      subst (λ (b : ℕ). P b (i + 1) n) at passed,
    )
