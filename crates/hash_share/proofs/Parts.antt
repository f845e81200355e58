-- The rule of touching where seats are split and joined, at the start and at the end.
use Rattle.std.proofs.Common.{◌≡◌, ◌≢◌, ℕ, zero, suc, ◌+◌, ◌-◌, ◌*◌, ◌<◌, ◌≤◌, eqb, cond, Bool, true, false, List, [], ◌∷◌, ◌++◌, length, replicate, set, get_or, refl, sym, ap, ◌∙◌, arith, subst, ⊎_elim, length-append}
use Rattle.std.specs.Prelude.{sum_by}
use Rattle.std.proofs.lemmas.List.Sums.{sum_by-cons, sum_by-append}
use mathlib.Core.Option.{some as there_is, some-injective, some-ne-none}
use lib.ListN.{get_elem?}
use Rattle.atomic_table.proofs.Lists.{at_snoc}
use Rattle.spatial_hash.specs.Table.{Table, entries_in}
use Rattle.spatial_hash.specs.Sound.{IsSound}
use Rattle.fusion_core.specs.TouchSeats.{SeatState, fresh_seat}
use Rattle.fusion_core.specs.TouchCounts.{times, pairs_at, firsts}
use Rattle.fusion_core.specs.TouchWords.{shown, drawn, IsOnWalk}
use Rattle.fusion_core.specs.TouchRule.{IsDealt, IsPlaced, Fits, TouchRuleHolds, owners_in, placings, spent}
use Rattle.fusion_core.proofs.TouchSums.{at_set, sum-set, sum-same, times-append, pairs-append, firsts-append}
use Rattle.fusion_core.proofs.TouchPairs.{each_append, times_both}
use Rattle.fusion_core.proofs.TouchOpening.{opens}

-- ---- the same by other counts

pub dealt_same : (start : Table) (ws : List ℕ) (a b : ℕ → ℕ) → ((n : ℕ) → b n ≡ a n) → IsDealt start ws a → IsDealt start ws b
dealt_same start ws a b is d = record {
  grown = d.grown;
  fresh = λ n lt f. (let o = d.fresh n lt f in (o.0, o.1, is n ∙ o.2));
  spare = λ n p. d.spare n (let e = is n in omega arith);
  once = λ n. (let e = is n in let o : a n ≤ 1 = d.once n in omega arith);
  walked = λ n lt f z. d.walked n lt f (sym (is n) ∙ z);
}

pub origin_same : (start : Table) (ws : List ℕ) (a b : ℕ → ℕ) → ((x : ℕ) → b x ≡ a x) → IsPlaced start ws a → IsPlaced start ws b
origin_same start ws a b is o = record {
  once = λ x. (let e = is x in let p : a x ≤ 1 = o.once x in omega arith);
  there = λ x p. o.there x (let e = is x in omega arith);
  back = λ e lt on f z. (let p : 0 < a (get_or ws e 0) = o.back e lt on f z in let q = is (get_or ws e 0) in omega arith);
}

-- ---- sums over all seats, of which one alone counts

module _ {A : Type 0} (g : A → ℕ) where
  sum_none : (l : List A) → ((k : ℕ) (u : A) → get_elem? l k ≡ there_is u → g u ≡ 0) → sum_by g l ≡ 0
  sum_none [] f = refl
  sum_none (x ∷ xs) f = omega (arith, f 0 x refl, sum_none xs (λ k u at. f (suc k) u at), sum_by-cons g x xs)

  pub sum_only : (l : List A) (j : ℕ) (v : A) → get_elem? l j ≡ there_is v → ((k : ℕ) (u : A) → k ≢ j → get_elem? l k ≡ there_is u → g u ≡ 0) → sum_by g l ≡ g v
  sum_only [] j v e f = absurd (some-ne-none v (sym e))
  sum_only (x ∷ xs) zero v e f = omega (arith, ap g (some-injective x v e), sum_none xs (λ k u at. f (suc k) u (λ q. absurd (omega arith)) at), sum_by-cons g x xs)
  sum_only (x ∷ xs) (suc j) v e f = omega (arith, f 0 x (λ q. absurd (omega arith)) refl, sum_only xs j v e (λ k u n at. f (suc k) u (λ q. n (omega arith)) at), sum_by-cons g x xs)

  sum_one : (x : A) → sum_by g (x ∷ []) ≡ g x
  sum_one x = omega (arith, sum_by-cons g x [])

  sum_snoc : (l : List A) (x : A) → sum_by g (l ++ x ∷ []) ≡ sum_by g l + g x
  sum_snoc l x = let a = sum_by-append g l (x ∷ []) in let b = sum_one x in omega arith

spent_none : (v : SeatState) → v.mark ≡ 0 → spent v ≡ 0
spent_none v e = grind (arith, e)

-- ---- a seat is split

abbrev pub with_part : ℕ → SeatState → SeatState
with_part p v = record v { part = p }

fits_cut : (start : Table) (ws : List ℕ) (v : SeatState) (p : ℕ) → Fits start ws v → 0 < v.part → v.nodes ≡ [] → 0 < p → Fits start ws (with_part p v)
fits_cut start ws v p f part none some = record {
  wide = λ q. f.wide part;
  seen = f.seen;
  blind = f.blind;
  touched = f.touched;
  placed = f.placed;
  filled = f.filled;
  few = (let e : length v.nodes ≡ 0 = ap length none in omega arith);
  idle = λ z. absurd (omega arith);
  marked = f.marked;
}

pub rule_cut : (start : Table) (seats id : ℕ) (ws : List ℕ) (vs : List SeatState) (v : SeatState) (k : ℕ) → 1 ≤ k → k < v.part → v.placed ≡ [] → v.nodes ≡ [] → v.mark ≡ 0 → TouchRuleHolds start seats ws vs → get_elem? vs id ≡ there_is v
    → TouchRuleHolds start seats ws (set vs id (with_part (v.part - k) v) ++ with_part k v ∷ [])
rule_cut start seats id ws vs v k one less placed nodes mark o me =
    let l : SeatState = with_part (v.part - k) v in
    let r : SeatState = with_part k v in
    let us : List SeatState = set vs id l in
    let f : Fits start ws v = o.each id v me in
    let part : 0 < v.part = omega arith in
    let no_spent : spent v ≡ 0 = spent_none v mark in
    let ls : spent l ≡ 0 = spent_none l mark in
    let rs : spent r ≡ 0 = spent_none r mark in
    let lp : v.part - k + k ≡ v.part = omega arith in
    record {
      sound = o.sound;
      walks = o.walks;
      dealt = dealt_same start ws (owners_in vs) (owners_in (us ++ r ∷ [])) (λ n. (
          let a = sum_snoc (λ (u : SeatState). firsts n u.nodes) us r in let b = sum-set (λ (u : SeatState). firsts n u.nodes) vs id v l me in let c : firsts n v.nodes ≡ 0 = ap (firsts n) nodes in omega arith)) o.dealt;
      origin = origin_same start ws (placings vs) (placings (us ++ r ∷ [])) (λ n. (
          let a = sum_snoc (λ (u : SeatState). times n u.placed) us r in let b = sum-set (λ (u : SeatState). times n u.placed) vs id v l me in let c : times n v.placed ≡ 0 = ap (times n) placed in omega arith)) o.origin;
      each = λ i u e. ⊎_elim (λ t. ⊎_elim (λ p. subst (Fits start ws) p.1 (fits_cut start ws v (v.part - k) f part nodes (omega arith))) (λ p. o.each i u p.1) (at_set vs id i l u t))
          (λ t. subst (Fits start ws) t (fits_cut start ws v k f part nodes (omega arith))) (at_snoc us r u i e);
      few = o.few;
      parts = (let a = sum_snoc (λ (u : SeatState). u.part) us r in let b = sum-set (λ (u : SeatState). u.part) vs id v l me in let c : sum_by (λ (u : SeatState). u.part) vs ≡ seats = o.parts in omega arith);
      counter = (
          let a = sum_snoc spent us r in let b = sum-set spent vs id v l me in
          let c : drawn start ws ≤ start.nodes + sum_by spent vs = o.counter in omega arith);
    }

-- ---- two seats are joined

-- two seats as one
abbrev pub joined : SeatState → SeatState → SeatState
joined v w = record v { part = v.part + w.part; touched = v.touched ++ w.touched; placed = v.placed ++ w.placed; nodes = w.nodes ++ v.nodes; mark = cond (eqb v.mark 0) w.mark v.mark }

-- what is left of the one that was taken in
abbrev pub no_seat : SeatState
no_seat = record { part = 0; seen = []; touched = []; placed = []; nodes = []; mark = 0 }

mark_by : (P : ℕ → Type 0) (a b : ℕ) (t : Bool) → (0 < a → P a) → (0 < b → P b) → 0 < cond t b a → P (cond t b a)
mark_by P a b true f g h = g h
mark_by P a b false f g h = f h

mark_of : (P : ℕ → Type 0) (a b : ℕ) → (0 < a → P a) → (0 < b → P b) → 0 < cond (eqb a 0) b a → P (cond (eqb a 0) b a)
mark_of P a b f g h = mark_by P a b (eqb a 0) f g h

marks_both : (a b p q : ℕ) → cond (eqb a 0) 0 p + cond (eqb b 0) 0 q ≤ cond (eqb (cond (eqb a 0) b a) 0) 0 (p + q)
marks_both a b p q = grind arith

spent_both : (v w : SeatState) → spent v + spent w ≤ spent (joined v w)
spent_both v w = marks_both v.mark w.mark v.part w.part

fits_gone : (start : Table) (ws : List ℕ) → Fits start ws no_seat
fits_gone start ws = record {
  wide = λ p. absurd (omega arith);
  seen = λ w lt p. absurd (omega arith);
  blind = λ n lt off. refl;
  touched = λ x e h. absurd (omega arith);
  placed = λ x h. absurd (omega arith);
  filled = λ n x h. absurd (omega arith);
  few = omega arith;
  idle = λ z. (refl, refl, refl, refl);
  marked = λ p. absurd (omega arith);
}

fits_both : (start : Table) (ws : List ℕ) (v w : SeatState) → 0 < v.part → Fits start ws v → Fits start ws w → Fits start ws (joined v w)
fits_both start ws v w part f g = record {
  wide = λ p. f.wide part;
  seen = f.seen;
  blind = f.blind;
  touched = each_append (λ x e. (0 < x) × (e < entries_in start) × IsOnWalk (shown start ws) e × (get_or ws e 0 ≡ x)) v.touched w.touched f.touched g.touched;
  placed = times_both (λ x. (e : ℕ) × (0 < pairs_at x e (v.touched ++ w.touched))) v.placed w.placed
      (λ x h. (let o = f.placed x h in (o.0, (let t = pairs-append x o.0 v.touched w.touched in let p : 0 < pairs_at x o.0 v.touched = o.1 in omega arith))))
      (λ x h. (let o = g.placed x h in (o.0, (let t = pairs-append x o.0 v.touched w.touched in let p : 0 < pairs_at x o.0 w.touched = o.1 in omega arith))));
  filled = each_append (λ n x. (n < start.nodes) × (get_or ws (4 * start.buckets + n) 0 ≡ x)) w.nodes v.nodes g.filled f.filled;
  few = (let a : length (w.nodes ++ v.nodes) ≡ length w.nodes + length v.nodes = length-append w.nodes v.nodes in let b : length w.nodes ≤ w.part = g.few in let c : length v.nodes ≤ v.part = f.few in omega arith);
  idle = λ z. absurd (omega arith);
  marked = λ p. mark_of (λ x. (start.nodes < x) × (start.nodes ≤ drawn start ws)) v.mark w.mark f.marked g.marked p;
}

pub rule_joined : (start : Table) (seats id other : ℕ) (ws : List ℕ) (vs : List SeatState) (v w : SeatState) → 0 < v.part → TouchRuleHolds start seats ws vs → get_elem? vs id ≡ there_is v → other ≢ id → get_elem? vs other ≡ there_is w
    → get_elem? (set vs id (joined v w)) other ≡ there_is w → TouchRuleHolds start seats ws (set (set vs id (joined v w)) other no_seat)
rule_joined start seats id other ws vs v w part o me ne was them =
    let b : SeatState = joined v w in
    let us : List SeatState = set vs id b in
    let gone : SeatState = no_seat in
    record {
      sound = o.sound;
      walks = o.walks;
      dealt = dealt_same start ws (owners_in vs) (owners_in (set us other gone)) (λ n. (
          let a = sum-set (λ (u : SeatState). firsts n u.nodes) us other w gone them in let c = sum-set (λ (u : SeatState). firsts n u.nodes) vs id v b me in let d = firsts-append n w.nodes v.nodes in omega arith)) o.dealt;
      origin = origin_same start ws (placings vs) (placings (set us other gone)) (λ n. (
          let a = sum-set (λ (u : SeatState). times n u.placed) us other w gone them in let c = sum-set (λ (u : SeatState). times n u.placed) vs id v b me in let d = times-append n v.placed w.placed in omega arith)) o.origin;
      each = λ i u e. ⊎_elim (λ t. subst (Fits start ws) t.1 (fits_gone start ws))
          (λ t. ⊎_elim (λ p. subst (Fits start ws) p.1 (fits_both start ws v w part (o.each id v me) (o.each other w was))) (λ p. o.each i u p.1) (at_set vs id i b u t.1)) (at_set us other i gone u e);
      few = o.few;
      parts = (let a = sum-set (λ (u : SeatState). u.part) us other w gone them in let c = sum-set (λ (u : SeatState). u.part) vs id v b me in let d : sum_by (λ (u : SeatState). u.part) vs ≡ seats = o.parts in omega arith);
      counter = (
          let a = sum-set spent us other w gone them in let c = sum-set spent vs id v b me in let e = spent_both v w in
          let d : drawn start ws ≤ start.nodes + sum_by spent vs = o.counter in omega arith);
    }

-- ---- the start: one seat has the whole part

module _ (start : Table) (s : IsSound start) (seats : ℕ) (some : 0 < seats) (few : seats ≤ 64) where
  abbrev ws : List ℕ
  ws = start.words ++ start.linked ∷ []

  abbrev one : SeatState
  one = fresh_seat (length start.words + 1) 1

  abbrev first : SeatState
  first = fresh_seat (length start.words + 1) seats

  many : TouchRuleHolds start seats ws (replicate seats one)
  many = opens start s seats few

  one_fits : (n : ℕ) → 0 < n → Fits start ws one → Fits start ws first
  one_fits n p f = record {
    wide = λ q. f.wide (omega arith);
    seen = f.seen;
    blind = f.blind;
    touched = f.touched;
    placed = f.placed;
    filled = f.filled;
    few = omega arith;
    idle = λ z. (refl, refl, refl, refl);
    marked = f.marked;
  }

  at_first : (n : ℕ) → 0 < n → get_elem? (replicate n one) 0 ≡ there_is one
  at_first zero p = absurd (omega arith)
  at_first (suc n) p = refl

  only : (i : ℕ) (v : SeatState) → get_elem? (first ∷ []) i ≡ there_is v → first ≡ v
  only zero v e = some-injective first v e
  only (suc i) v e = absurd (some-ne-none v (sym e))

  same_sum : (g : SeatState → ℕ) → g first ≡ 0 → g one ≡ 0 → sum_by g (first ∷ []) ≡ sum_by g (replicate seats one)
  same_sum g p q = (let a = sum_one g first in let b = sum-same g seats 0 one q in omega arith)

  pub opens_one : TouchRuleHolds start seats ws (first ∷ [])
  opens_one = record {
    sound = s;
    walks = many.walks;
    dealt = dealt_same start ws (owners_in (replicate seats one)) (owners_in (first ∷ [])) (λ n. same_sum (λ u. firsts n u.nodes) refl refl) many.dealt;
    origin = origin_same start ws (placings (replicate seats one)) (placings (first ∷ [])) (λ x. same_sum (λ u. times x u.placed) refl refl) many.origin;
    each = λ i v e. subst (Fits start ws) (only i v e) (one_fits seats some (many.each 0 one (at_first seats some)));
    few = few;
    parts = sum_one (λ (u : SeatState). u.part) first;
    counter = (let c : drawn start ws ≤ start.nodes + sum_by spent (replicate seats one) = many.counter in let e = sum-same spent seats 0 one refl in omega arith);
  }
