-- What the table that was filled is to the shared one.
use Rattle.std.proofs.Common.{◌≡◌, ◌≢◌, ℕ, zero, suc, ◌+◌, ◌-◌, ◌*◌, ◌^◌, ◌<◌, ◌≤◌, eqb, List, [], ◌∷◌, length, map, get_or, Bool, true, false, refl, sym, ap, ◌∙◌, arith, inl, inr, subst}
use Rattle.std.specs.Prelude.{◌⊎◌, Some, None, Option, slice_index}
use Rattle.std.specs.FinMap.{get, len, get-empty}
use Rattle.std.proofs.lemmas.Bool.{cases_eq, cases_Bool, cond-true, cond-false, eq-eqb, ne_eqb, false≢true}
use Rattle.voxel_block.specs.declared.key.BlockKey.{BlockKey}
use Rattle.voxel_block.specs.Keys.{key_cmp}
use Rattle.voxel_block.specs.Words.{word_of, key_of}
use Rattle.voxel_block.proofs.WordLaws.{word_of_read, is_key_word}
use Rattle.spatial_hash.specs.Table.{Table, entries_in, key_word, empty_table}
use Rattle.spatial_hash.specs.Contents.{contents, pairs_from}
use Rattle.spatial_hash.proofs.NewTables.{zeros, no_contents}
use Rattle.spatial_hash.proofs.Maps.{cases_option, get_has, has_get}
use Rattle.spatial_hash.proofs.Counts.{len_contents}
use Rattle.hash_share.specs.declared.view.View.{View}
use Rattle.fusion_core.specs.TouchCounts.{pairs_at, times, firsts}
use Rattle.fusion_core.specs.TouchWords.{drawn}
use Rattle.hash_share.specs.Seats.{cell_in, IsNewKey}
use Rattle.std.specs.Option.{IsSome}
use mathlib.Core.Option.{some as there_is, some-injective, some-ne-none}
use lib.ListN.{get_elem?}
use Rattle.spatial_hash.specs.Walk.{IsFullFor}
use Rattle.hash_share.specs.Refill.{IsEnd, Gains, IsPutBack, below, IsLive, IsRefilled}
use Rattle.fusion_core.proofs.TouchAbsence.{start_walk}
use Rattle.fusion_core.proofs.TouchSums.{times-cons, firsts-cons}
use Rattle.hash_share.proofs.Refilling.{below_few, walk-live, live-walk, one-place, is-new, not-full, next-spare, next-free, next-key}

pub refill_first : (start : Table) (ws : List ℕ) (v : View) (r : Table) → IsEnd start ws v → r ≡ empty_table start.buckets start.nodes → IsRefilled start ws v r 0
refill_first start ws v r z is =
    let b : ℕ = start.buckets in
    let n : ℕ = start.nodes in
    let P : Table → Type 0 = λ t. IsRefilled start ws v t 0 in
    let now : P (empty_table b n) = record {
      size = (refl, refl);
      same = λ d ld less. absurd (omega arith);
      free = λ d ld le. zeros (5 * b + 2 * n) d;
      has = λ d k less ld live q. absurd (omega arith);
      only = λ k c got. (let e : ◌≡◌ {A = Option ℕ} None (Some c) = sym (get-empty key_cmp k) ∙ sym (ap (λ m. get m k) (no_contents b n)) ∙ got in absurd (cc));
      linked = omega arith;
      many = λ all. omega arith;
      count = λ all. (
          let l : len (contents start) ≡ length (pairs_from (entries_in start) start 0) = len_contents start z.sound in
          let m : entries_in start - 0 ≡ entries_in start = omega arith in
          let q : length (pairs_from (entries_in start - 0) start 0) ≡ length (pairs_from (entries_in start) start 0) = ap (λ (x : ℕ). length (pairs_from x start 0)) m in
          omega arith);
    } in
    subst P (sym is) now

none-left : (t : Table) (e : ℕ) → length (pairs_from 0 t e) ≡ 0
unfolding pairs_from
none-left t e = refl

some-word : (w : ℕ) (k : BlockKey) → key_of w ≡ Some k → w ≢ 0
some-word w k is q = let e : ◌≡◌ {A = Option BlockKey} None (Some k) = ap key_of (sym q) ∙ is in absurd (cc)

filled-cell : (t : Table) (e : ℕ) → key_word t e ≢ 0 → cell_in t e ≡ slice_index t.cells e
filled-cell t e ne = cond-false (eqb (key_word t e) 0) _ _ (ne_eqb (key_word t e) 0 ne)

free-cell : (t : Table) (e : ℕ) → key_word t e ≡ 0 → cell_in t e ≡ 2 ^ 32 - 1
free-cell t e z = cond-true (eqb (key_word t e) 0) _ _ (eq-eqb (key_word t e) 0 z)

module _ (start : Table) (ws : List ℕ) (v : View) (z : IsEnd start ws v) (r : Table) (f : IsRefilled start ws v r (entries_in start)) where
  -- a shared key is live where it stood
  was-live : (e : ℕ) (k : BlockKey) → e < entries_in start → key_of (key_word start e) ≡ Some k → IsLive start ws v e × (key_of (get_or ws e 0) ≡ Some k)
  was-live e k lt is =
      let ne : key_word start e ≢ 0 = some-word (key_word start e) k is in
      let kept : get_or ws e 0 ≡ key_word start e = z.walks.kept e lt (omega arith) in
      let on = start_walk start ws (λ n. firsts n v.nodes) e z.sound z.walks z.dealt lt (omega arith) in
      (walk-live start ws v z e on (omega arith), ap key_of kept ∙ is)

  pub keeps_shared : (k : BlockKey) (c : ℕ) → get (contents start) k ≡ Some c → get (contents r) k ≡ Some c
  keeps_shared k c got =
      let h = has_get start k c got in
      let l = was-live h.at k h.low h.key in
      f.has h.at k h.low h.low l.0 l.1 ∙ ap Some (filled-cell start h.at (some-word (key_word start h.at) k h.key) ∙ h.cell)

  pub has_touched : (k : BlockKey) (e : ℕ) → key_of (word_of k) ≡ Some k → 0 < pairs_at (word_of k) e v.touched → get (contents start) k ≡ None → get (contents r) k ≡ Some (2 ^ 32 - 1)
  has_touched k e back h none =
      let t = z.fits.touched (word_of k) e h in
      let some : 0 < word_of k = t.0 in
      let word : get_or ws e 0 ≡ word_of k = t.3 in
      let is : key_of (get_or ws e 0) ≡ Some k = ap key_of word ∙ back in
      let free : key_word start e ≡ 0 = elim (cases_eq (key_word start e) 0) [
        | inl q ↦ q
        | inr ne ↦ (
            let kept : get_or ws e 0 ≡ key_word start e = z.walks.kept e t.1 (omega arith) in
            let got : get (contents start) k ≡ Some (slice_index start.cells e) = get_has start k (slice_index start.cells e) z.sound.differ (record { at = e; low = t.1; key = ap key_of (sym kept) ∙ is; cell = refl }) in
            let bad : ◌≡◌ {A = Option ℕ} None (Some (slice_index start.cells e)) = sym none ∙ got in absurd (cc))
      ] in
      f.has e k t.1 t.1 (walk-live start ws v z e t.2 (omega arith)) is ∙ ap Some (free-cell start e free)

  pub only_these : (k : BlockKey) (c : ℕ) → get (contents r) k ≡ Some c → (get (contents start) k ≡ Some c) ⊎ IsNewKey start v k c
  only_these k c got =
      let o = f.only k c got in
      elim (cases_eq (key_word start o.0) 0) [
        | inr ne ↦ (
            let kept : get_or ws o.0 0 ≡ key_word start o.0 = z.walks.kept o.0 o.2 (omega arith) in
            inl (get_has start k c z.sound.differ (record { at = o.0; low = o.2; key = ap key_of (sym kept) ∙ o.4; cell = sym (filled-cell start o.0 ne) ∙ sym o.5 })))
        | inl free ↦ (
            let on = live-walk start ws v z o.0 o.2 o.3 in
            let p = z.fits.placed (get_or ws o.0 0) (z.origin.back o.0 o.2 on o.3.0 free) in
            let word : word_of k ≡ get_or ws o.0 0 = word_of_read (get_or ws o.0 0) k o.4 in
            let none : get (contents start) k ≡ None = elim (cases_option (get (contents start) k)) [
              | inl q ↦ q
              | inr some ↦ (
                  let h = has_get start k some.0 some.1 in
                  let l = was-live h.at k h.low h.key in
                  let same : h.at ≡ o.0 = one-place start ws v z h.at o.0 k h.low o.2 l.0 o.3 l.1 o.4 in
                  absurd (some-word (key_word start h.at) k h.key (ap (key_word start) same ∙ free)))
            ] in
            inr (record { cell = o.5 ∙ free-cell start o.0 free; lacked = none; named = ap key_of word ∙ o.4; entry = p.0; touched = subst (λ (x : ℕ). 0 < pairs_at x p.0 v.touched) (sym word) p.1 }))
      ]

  pub links_many : 0 < v.mark → start.nodes ≤ r.linked + v.part
  links_many m =
      let all : start.nodes ≤ drawn start ws = (z.fits.marked m).1 in
      let many : entries_in start - 4 * start.buckets ≤ r.linked + below (entries_in start - 4 * start.buckets) v.nodes = f.many all in
      let few : below (entries_in start - 4 * start.buckets) v.nodes ≤ length v.nodes = below_few (entries_in start - 4 * start.buckets) v.nodes in
      let part : length v.nodes ≤ v.part = z.fits.few in
      omega arith

  pub counts_new : 0 < v.mark → len (contents start) + (start.nodes - start.linked) ≤ len (contents r) + v.part
  counts_new m =
      let all : start.nodes ≤ drawn start ws = (z.fits.marked m).1 in
      let count : len (contents start) + (entries_in start - 4 * start.buckets - start.linked) ≤ len (contents r) + below (entries_in start - 4 * start.buckets) v.nodes + length (pairs_from (entries_in start - entries_in start) start (entries_in start)) = f.count all in
      let few : below (entries_in start - 4 * start.buckets) v.nodes ≤ length v.nodes = below_few (entries_in start - 4 * start.buckets) v.nodes in
      let part : length v.nodes ≤ v.part = z.fits.few in
      let none : entries_in start - entries_in start ≡ 0 = omega arith in
      let left : length (pairs_from (entries_in start - entries_in start) start (entries_in start)) ≡ 0 = ap (λ (x : ℕ). length (pairs_from x start (entries_in start))) none ∙ none-left start (entries_in start) in
      omega arith

-- ---- a step of the loop

pub times_firsts : (x : ℕ) (l : List (ℕ × ℕ)) → times x (map (λ p. p.0) l) ≡ firsts x l
times_firsts x [] = refl
times_firsts x (p ∷ ps) = omega (arith, times_firsts x ps, times-cons x p.0 (map (λ q. q.0) ps), firsts-cons x p ps)

pub got_at : (l : List ℕ) (i a : ℕ) → get_elem? l i ≡ there_is a → get_or l i 0 ≡ a
got_at [] i a e = absurd (some-ne-none a (sym e))
got_at (x ∷ xs) zero a e = some-injective x a e
got_at (x ∷ xs) (suc i) a e = got_at xs i a e

module _ (start : Table) (ws : List ℕ) (v : View) (z : IsEnd start ws v) (r : Table) (e : ℕ) (f : IsRefilled start ws v r e) (lt : e < entries_in start) (w : ℕ) (is : get_or ws e 0 ≡ w) (spare : Bool) (yes-spare : spare ≡ true → (4 * start.buckets ≤ e) × (0 < firsts (e - 4 * start.buckets) v.nodes)) (no-spare : spare ≡ false → 4 * start.buckets ≤ e → firsts (e - 4 * start.buckets) v.nodes ≡ 0) where
  live : spare ≡ false → 0 < w → IsLive start ws v e
  live s some = (
    (let q : 0 < get_or ws e 0 = omega arith in q),
    λ n at. (let same : e - 4 * start.buckets ≡ n = omega arith in subst (λ (x : ℕ). firsts x v.nodes ≡ 0) same (no-spare s (omega arith))),
  )

  pub refill_ready : spare ≡ false → 0 < w → (k : BlockKey) → key_of w ≡ Some k → (get (contents r) k ≡ None) × (IsFullFor r k → ⊥)
  refill_ready s some k key =
      let at : key_of (get_or ws e 0) ≡ Some k = ap key_of is ∙ key in
      (is-new start ws v z r e k f lt (live s some) at, not-full start ws v z r e k f lt (live s some) at)

  pub refill_named : w ≤ 2 ^ 48
  refill_named = let p : get_or ws e 0 ≤ 2 ^ 48 = z.walks.named e lt in omega arith

  pub refill_next : (u : Table) (c : ℕ) → c ≡ cell_in start e → IsPutBack r u w c spare → IsRefilled start ws v u (e + 1)
  refill_next u c cell p =
      let P : Table → Type 0 = λ t. IsRefilled start ws v t (e + 1) in
      elim (cases_Bool spare) [
        | inl yes-it ↦ (let s = yes-spare yes-it in subst P (sym (p.skipped yes-it)) (next-spare start ws v z r e f lt s.0 s.1))
        | inr no-it ↦ elim (cases_eq w 0) [
          | inl zero-there ↦ subst P (sym (p.empty zero-there)) (next-free start ws v z r e f lt (is ∙ zero-there) (no-spare no-it))
          | inr ne ↦ elim (cases_option (key_of w)) [
            | inl none ↦ (let named = refill_named in let h : IsSome {T = BlockKey} None = subst (IsSome {T = BlockKey}) none (is_key_word w (omega arith) named) in absurd (false≢true h))
            | inr k ↦ (
                let g = p.put no-it (omega arith) k.0 k.1 in
                let g2 : Gains r u k.0 (get_or ws e 0) (cell_in start e) = subst (λ (x : ℕ). Gains r u k.0 x (cell_in start e)) (sym is) (subst (Gains r u k.0 w) cell g) in
                next-key start ws v z r e f lt k.0 (live no-it (omega arith)) (ap key_of is ∙ k.1) u g2)
          ]
        ]
      ]

-- ---- by the number of buckets that the code has

pub spare_yes : (b c e : ℕ) (spares : List ℕ) (ns ms : List (ℕ × ℕ)) → b ≡ c → map (λ p. p.0) ns ≡ spares → ns ≡ ms → (4 * b ≤ e) × (0 < times (e - 4 * b) spares) → (4 * c ≤ e) × (0 < firsts (e - 4 * c) ms)
spare_yes b c e spares ns ms bc tie nm h =
    let P : ℕ → Type 0 = λ x. (4 * x ≤ e) × (0 < times (e - 4 * x) spares) in
    let q : P c = subst P bc h in
    let t : times (e - 4 * c) spares ≡ firsts (e - 4 * c) ms = sym (ap (times (e - 4 * c)) tie) ∙ times_firsts (e - 4 * c) ns ∙ ap (firsts (e - 4 * c)) nm in
    (q.0, subst (λ (x : ℕ). 0 < x) t q.1)

pub spare_no : (b c e : ℕ) (spares : List ℕ) (ns ms : List (ℕ × ℕ)) → b ≡ c → map (λ p. p.0) ns ≡ spares → ns ≡ ms → (4 * b ≤ e → times (e - 4 * b) spares ≡ 0) → 4 * c ≤ e → firsts (e - 4 * c) ms ≡ 0
spare_no b c e spares ns ms bc tie nm h le =
    let P : ℕ → Type 0 = λ x. 4 * x ≤ e → times (e - 4 * x) spares ≡ 0 in
    let q : P c = subst P bc h in
    let t : times (e - 4 * c) spares ≡ firsts (e - 4 * c) ms = sym (ap (times (e - 4 * c)) tie) ∙ times_firsts (e - 4 * c) ns ∙ ap (firsts (e - 4 * c)) nm in
    sym t ∙ q le
