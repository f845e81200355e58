-- A touched key has the entry at which the seat saw it.
use Rattle.std.proofs.Common.{◌≡◌, ℕ, zero, suc, ◌+◌, ◌-◌, ◌*◌, ◌<◌, List, [], ◌∷◌, length, set, get_or, sym, ap, ◌∙◌, arith, inl, inr, subst}
use Rattle.std.proofs.lemmas.Bool.{cases_eq, cases_lt}
use mathlib.Core.Option.{some as there_is, some-ne-none}
use lib.ListN.{get_elem?}
use Rattle.atomic_table.proofs.Lists.{set_here}
use Rattle.spatial_hash.specs.Table.{Table, entries_in}
use Rattle.fusion_core.specs.TouchCounts.{pairs_at}
use Rattle.fusion_core.specs.TouchSeats.{SeatState}
use Rattle.fusion_core.specs.TouchSteps.{touched_after}
use Rattle.fusion_core.specs.TouchRule.{IsWalked, Fits, TouchRuleHolds}
use Rattle.fusion_core.proofs.TouchPairs.{touched_has}

-- the entry of a touched key is the one at which the seat has seen it
same_entry : (start : Table) (ws : List ℕ) (v : SeatState) → IsWalked start ws → Fits start ws v → (k d e : ℕ) → 0 < pairs_at k d v.touched → e < entries_in start → get_or v.seen e 0 ≡ k → d ≡ e
same_entry start ws v w f k d e there low seen =
    let t = f.touched k d there in
    let some : 0 < k = t.0 in
    let here : get_or ws d 0 ≡ k = t.3 in
    let same : get_or ws e 0 ≡ get_or v.seen e 0 = f.seen e (omega arith) (omega arith) in
    elim (cases_lt e (4 * start.buckets)) [
      | inl lt ↦ w.differ d e t.2 (inl lt) (omega arith) (here ∙ sym (same ∙ seen))
      | inr ge ↦ elim (cases_eq d e) [
        | inl is ↦ is
        | inr ne ↦ (
            let n : ℕ = e - 4 * start.buckets in
            let at : e ≡ 4 * start.buckets + n = omega arith in
            let unseen : get_or v.seen (4 * start.buckets + n) 0 ≡ 0 = f.blind n (omega arith) (λ led. ne (w.differ d e t.2 (inr (n, at, led)) (omega arith) (here ∙ sym (same ∙ seen)))) in
            let none : get_or v.seen e 0 ≡ 0 = ap (λ (x : ℕ). get_or v.seen x 0) at ∙ unseen in
            absurd (omega arith))
      ]
    ]

at_low : {A : Type 0} (l : List A) (i : ℕ) (a : A) → get_elem? l i ≡ there_is a → i < length l
at_low [] i a e = absurd (some-ne-none a (sym e))
at_low (x ∷ l) zero a e = omega arith
at_low (x ∷ l) (suc i) a e = (let r = at_low l i a e in omega arith)

-- after a step that touched the key with word k at entry e, where it was seen, the touched list has this pair
pub pair_after : (start : Table) (seats id : ℕ) (ws : List ℕ) (us : List SeatState) (v w : SeatState) → TouchRuleHolds start seats ws (set us id w) → get_elem? us id ≡ there_is v → (k e : ℕ) (old : List (ℕ × ℕ))
    → w.touched ≡ touched_after k e k old → e < entries_in start → get_or w.seen e 0 ≡ k → 0 < pairs_at k e w.touched
pair_after start seats id ws us v w o at k e old is low seen =
    let has = touched_has k e old in
    let there : 0 < pairs_at k has.0 w.touched = subst (λ (l : List (ℕ × ℕ)). 0 < pairs_at k has.0 l) (sym is) has.1 in
    let same : has.0 ≡ e = same_entry start ws w o.walks (o.each id w (set_here us id w (at_low us id v at))) k has.0 e there low seen in
    subst (λ (d : ℕ). 0 < pairs_at k d w.touched) same there
