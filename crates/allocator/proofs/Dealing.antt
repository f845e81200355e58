-- Rows that are dealt out to workers, and workers put together.
use Rattle.std.proofs.Common.{◌≡◌, ℕ, eqb, ◌+◌, ◌%◌, ◌<◌, Bool, true, false, cond, refl, sym, ap, ◌∙◌, subst, arith, inl, inr, ◌⊎◌}
use Rattle.std.specs.Prelude.{Some, None, Option, Contains}
use Rattle.std.specs.Option.{option_or}
use Rattle.std.proofs.lemmas.Bool.{cases_lt, eq-eqb, eqb-true, false≢true}
use Rattle.std.proofs.lemmas.Nat.{mod_below}
use Rattle.voxel_block.specs.declared.key.BlockKey.{BlockKey}
use Rattle.voxel_block.specs.Words.{word_of}
use Rattle.depth_view.specs.Views.{View as Shown}
use Rattle.band_walk.specs.Bands.{band, row_blocks}
use Rattle.band_walk.proofs.BandSet.{from_lists, to_lists}
use Rattle.fusion_core.specs.TouchCounts.{pairs_at}
use Rattle.fusion_core.proofs.TouchSums.{pairs-append}
use Rattle.fusion_core.proofs.TouchPairs.{two}
use Rattle.hash_share.specs.declared.view.View.{View}
use Rattle.hash_share.specs.Seats.{Belongs, Share, Toucher}
use Rattle.hash_share.specs.Steps.{HasPair, both}
use Rattle.allocator.specs.Work.{HasTouched, HasWorked, IsDealt, IsSpentAt, TouchedAll, TouchedRows}

-- ---- rows

pub row_in_band : (w : Shown) (v : ℕ) (b : BlockKey) → v < w.depths.height → Contains (row_blocks w v) b → Contains (band w) b
row_in_band w v b low has = to_lists (row_blocks w) w.depths.height v b low has

pub row_of_one : (n number v : ℕ) → IsDealt n number 1 v → v % n ≡ number
row_of_one n number v d = let a = d.0 in let b = d.1 in omega (arith, a, b)

pub no_rows : (w : Shown) (n first count : ℕ) (v : View) → TouchedRows w n first count 0 v
no_rows w n first count v r low = absurd (omega arith)

-- one row more
pub more_rows : (w : Shown) (n first count before : ℕ) (v x : View) → ((b : BlockKey) → HasTouched v b → HasTouched x b) → TouchedRows w n first count before v
    → (IsDealt n first count before → TouchedAll (row_blocks w before) x) → TouchedRows w n first count (before + 1) x
more_rows w n first count before v x still rows last r low dealt b has = elim (cases_lt r before) [
  | inl less ↦ still b (rows r less dealt b has)
  | inr more ↦ (
      let same : r ≡ before = omega arith in
      last (subst (IsDealt n first count) same dealt) b (subst (λ k. Contains (row_blocks w k) b) same has))
]

-- ---- two parts of the workers

picks_first : (t : Bool) (a b : ℕ) → (t ≡ true → a ≡ 0) → 0 < a → 0 < cond t b a
picks_first true a b nil some = absurd (let z = nil refl in omega (arith, z, some))
picks_first false a b nil some = some

picks_one : (t : Bool) (a b : ℕ) → (t ≡ false → 0 < a) → 0 < b → 0 < cond t b a
picks_one true a b first some = some
picks_one false a b first some = first refl

some_mark : (a : ℕ) → eqb a 0 ≡ false → 0 < a
some_mark a unmarked = elim (cases_lt 0 a) [
  | inl some ↦ some
  | inr none ↦ absurd (false≢true (sym unmarked ∙ eq-eqb a 0 (omega arith)))
]

module _ (v w : View) where
  pub pair_left : (x e : ℕ) → HasPair x e v → HasPair x e (both v w)
  pair_left x e h = let sum = pairs-append x e v.touched w.touched in omega (arith, sum, h)

  pub pair_right : (x e : ℕ) → HasPair x e w → HasPair x e (both v w)
  pair_right x e h = let sum = pairs-append x e v.touched w.touched in omega (arith, sum, h)

  pair_of : (x e : ℕ) → HasPair x e (both v w) → HasPair x e v ⊎ HasPair x e w
  pair_of x e h = two (pairs_at x e v.touched) (pairs_at x e w.touched) _ (pairs-append x e v.touched w.touched) (λ a. inl a) (λ a. inr a) h

  marked_left : 0 < v.mark → 0 < (both v w).mark
  marked_left h = picks_first (eqb v.mark 0) v.mark w.mark (eqb-true v.mark 0) h

  marked_right : 0 < w.mark → 0 < (both v w).mark
  marked_right h = picks_one (eqb v.mark 0) v.mark w.mark (some_mark v.mark) h

  spent_both : (n : ℕ) (p q : Option ℕ) → IsSpentAt n v p → IsSpentAt n w q → IsSpentAt n (both v w) (option_or p q)
  spent_both n (Some c) q a b d is = ((a d is).0, marked_left (a d is).1)
  spent_both n None q a b d is = ((b d is).0, marked_right (b d is).1)

none_left : (p q : Option ℕ) → option_or p q ≡ None → p ≡ None
none_left None q e = refl
none_left (Some c) q e = absurd (cc)

none_right : (p q : Option ℕ) → option_or p q ≡ None → q ≡ None
none_right None q e = e
none_right (Some c) q e = absurd (cc)

pub worked_both : (s : Share) (w : Shown) (n first rest half : ℕ) (a b c : Toucher) (p q : Option ℕ) → Belongs c s → c.knows ≡ both a.knows b.knows
    → HasWorked s w n first rest a p → HasWorked s w n (first + rest) half b q → HasWorked s w n first (rest + half) c (option_or p q)
worked_both s w n first rest half a b c p q belongs is l r = record {
  belongs = belongs;
  part = ap (λ (z : View). z.part) is ∙ (let x = l.part in let y = r.part in omega (arith, x, y));
  only = λ x e h. elim (pair_of a.knows b.knows x e (subst (HasPair x e) is h)) [
    | inl left ↦ l.only x e left
    | inr right ↦ r.only x e right
  ];
  all = λ none v low dealt k has. elim (cases_lt (v % n) (first + rest)) [
    | inl less ↦ (
        let t = l.all (none_left p q none) v low (dealt.0, less) k has in
        record { named = t.named; entry = t.entry; pair = subst (HasPair (word_of k) t.entry) (sym is) (pair_left a.knows b.knows (word_of k) t.entry t.pair) })
    | inr more ↦ (
        let top : v % n < first + rest + half = (let d = dealt.1 in omega (arith, d)) in
        let t = r.all (none_right p q none) v low (more, top) k has in
        record { named = t.named; entry = t.entry; pair = subst (HasPair (word_of k) t.entry) (sym is) (pair_right a.knows b.knows (word_of k) t.entry t.pair) })
  ];
  spent = λ d some. subst (λ (z : View). IsSpentAt s.start.nodes z (option_or p q)) (sym is) (spent_both a.knows b.knows s.start.nodes p q l.spent r.spent) d some;
}

-- the same of parts that are cut from one
pub worked_cut : (s : Share) (w : Shown) (n first count n0 f0 c0 n1 f1 c1 : ℕ) (a b c : Toucher) (p q o : Option ℕ) → n0 ≡ n → f0 ≡ first → n1 ≡ n → f1 ≡ first + c0 → c0 + c1 ≡ count → Belongs c s → c.knows ≡ both a.knows b.knows → o ≡ option_or p q
    → HasWorked s w n0 f0 c0 a p → HasWorked s w n1 f1 c1 b q → HasWorked s w n first count c o
worked_cut s w n first count n0 f0 c0 n1 f1 c1 a b c p q o en0 ef0 en1 ef1 sum belongs is eo l r =
    let left = subst (λ (k : ℕ). HasWorked s w k first c0 a p) en0 (subst (λ (k : ℕ). HasWorked s w n0 k c0 a p) ef0 l) in
    let right = subst (λ (k : ℕ). HasWorked s w k (first + c0) c1 b q) en1 (subst (λ (k : ℕ). HasWorked s w n1 k c1 b q) ef1 r) in
    let whole = worked_both s w n first c0 c1 a b c p q belongs is left right in
    subst (λ (k : ℕ). HasWorked s w n first k c o) sum (subst (λ (x : Option ℕ). HasWorked s w n first (c0 + c1) c x) (sym eo) whole)

-- ---- all workers

-- each block of the band was touched, where all workers took all their rows
pub band_touched : (s : Share) (w : Shown) (n : ℕ) (t : Toucher) (p : Option ℕ) → 0 < n → HasWorked s w n 0 n t p → p ≡ None → TouchedAll (band w) t.knows
band_touched s w n t p some h none b has =
    let row = from_lists (row_blocks w) w.depths.height b has in
    let low : row.0 % n < 0 + n = (let m = mod_below row.0 n some in omega (arith, m)) in
    h.all none row.0 row.1 (omega arith, low) b row.2
