-- A key that a look-up found, and the last key of its walk.
use Rattle.std.proofs.Common.{◌≡◌, ℕ, suc, ◌+◌, ◌-◌, ◌*◌, ◌/◌, ◌%◌, ◌<◌, List, [], ◌∷◌, refl, sym, ap, ◌∙◌, arith, inl, inr, subst, true, false}
use Rattle.std.specs.Prelude.{Some, slice_index}
use Rattle.std.specs.Option.{is_some}
use Rattle.std.specs.FinMap.{contains_key}
use Rattle.std.proofs.lemmas.Bool.{cases_lt}
use Rattle.voxel_block.specs.declared.key.BlockKey.{BlockKey}
use Rattle.voxel_block.specs.Words.{key_of, word_of}
use Rattle.voxel_block.proofs.WordLaws.{word_of_read}
use Rattle.spatial_hash.specs.declared.lookup.Lookup.{Lookup}
use Rattle.spatial_hash.specs.declared.lookup.Lookup.TheVariants.{Found, Vacant, ChainEnd}
use Rattle.spatial_hash.specs.Hash.{home, bucket_of}
use Rattle.spatial_hash.specs.Table.{Table, entries_in, key_word, link_word}
use Rattle.spatial_hash.specs.Walk.{entry_of, walk_of}
use Rattle.spatial_hash.specs.Contents.{contents, IsKeyAt}
use Rattle.spatial_hash.specs.Sound.{Leads, IsSound}
use Rattle.spatial_hash.specs.Lookup.{IsLookup, IsCellAt}
use Rattle.spatial_hash.specs.Removal.{IsLast, IsBucketEnd, IsChainEnd}
use Rattle.spatial_hash.proofs.Maps.{has_get}
use Rattle.spatial_hash.proofs.Places.{first_has, filled_below, is_linked, low_home}
use Rattle.spatial_hash.proofs.Homes.{home_is}

-- the entry that the look-up found has the key
pub record IsFoundAt (t : Table) (k : BlockKey) (e : ℕ) : Type 0 where
  pub low : e < entries_in t
  pub key : key_of (key_word t e) ≡ Some k
  pub filled : 0 < key_word t e
  pub at_home : home t.buckets (key_word t e) ≡ bucket_of t.buckets k

pub found_at : (t : Table) (k : BlockKey) (e : ℕ) → IsLookup t (word_of k) (bucket_of t.buckets k) (Found e) → IsCellAt t k (Found e) → IsFoundAt t k e
found_at t k e p c =
    let h = has_get t k (slice_index t.cells e) c in
    let w : word_of k ≡ key_word t h.at = word_of_read (key_word t h.at) k h.key in
    let f : key_word t e ≡ word_of k = first_has t (word_of k) e (walk_of t (bucket_of t.buckets k)) p.0 in
    let is : key_of (key_word t e) ≡ Some k = ap key_of (f ∙ w) ∙ h.key in
    record { low = p.1; key = is; filled = omega arith; at_home = home_is t.buckets (key_word t e) k is }

pub entry_found : (t : Table) (k : BlockKey) (e : ℕ) → IsLookup t (word_of k) (bucket_of t.buckets k) (Found e) → true ≡ is_some (entry_of t k)
unfolding entry_of
entry_found t k e p = sym (ap is_some p.0)

entry_none_by : (t : Table) (k : BlockKey) (p : Lookup) → ((e : ℕ) → p ≡ Found e → ⊥) → IsLookup t (word_of k) (bucket_of t.buckets k) p → false ≡ is_some (entry_of t k)
unfolding entry_of
entry_none_by t k (Found e) ne p = absurd (ne e refl)
entry_none_by t k (Vacant e) ne p = sym (ap is_some p.0)
entry_none_by t k (ChainEnd e) ne p = sym (ap is_some p.0)

pub entry_none : (t : Table) (k : BlockKey) (p : Lookup) → ((e : ℕ) → p ≡ Found e → ⊥) → IsLookup t (word_of k) (bucket_of t.buckets k) p → false ≡ is_some (entry_of t k)
entry_none t k p ne s = entry_none_by t k p ne s

has_none_by : (t : Table) (k : BlockKey) (p : Lookup) → ((e : ℕ) → p ≡ Found e → ⊥) → IsCellAt t k p → false ≡ contains_key (contents t) k
has_none_by t k (Found e) ne c = absurd (ne e refl)
has_none_by t k (Vacant e) ne c = sym (ap is_some c)
has_none_by t k (ChainEnd e) ne c = sym (ap is_some c)

pub has_none : (t : Table) (k : BlockKey) (p : Lookup) → ((e : ℕ) → p ≡ Found e → ⊥) → IsCellAt t k p → false ≡ contains_key (contents t) k
has_none t k p ne c = has_none_by t k p ne c

pub has_found : (t : Table) (k : BlockKey) (e : ℕ) → IsCellAt t k (Found e) → true ≡ contains_key (contents t) k
has_found t k e c = sym (ap is_some c)

-- ---- the last of the walk

no_chain : (t : Table) (h : ℕ) (ns : List ℕ) (k : ℕ) → Leads t h h ns k → link_word t h ≡ 0 → h ≡ k
no_chain t h [] k r z = r
no_chain t h (x ∷ ns) k r z = let f : link_word t h ≡ suc x = r.0.link in absurd (omega arith)

-- a bucket that has a key and no chain has its first entry filled
pub first_filled : (t : Table) (h e : ℕ) → IsSound t → e < entries_in t → 0 < key_word t e → home t.buckets (key_word t e) ≡ h → h < t.buckets → link_word t h ≡ 0 → 0 < key_word t (4 * h)
first_filled t h e s low f at lh z =
    elim (cases_lt e (4 * t.buckets)) [
      | inl lt ↦ (
          let split : e ≡ 4 * (e / 4) + e % 4 = omega arith in
          let hb : e / 4 < t.buckets = omega arith in
          let il : e % 4 < 4 = omega arith in
          let hh : e / 4 ≡ h = sym (low_home t (e / 4) (e % 4) e s split il hb f) ∙ at in
          let g : 0 < key_word t (4 * (e / 4) + e % 4) = (let k : key_word t e ≡ key_word t (4 * (e / 4) + e % 4) = ap (key_word t) split in omega arith) in
          let first : 0 < key_word t (4 * (e / 4) + 0) = filled_below t (e / 4) (e % 4) s hb il g 0 (omega arith) in
          let same : 4 * (e / 4) + 0 ≡ 4 * h = omega arith in
          rw same at first)
      | inr ge ↦ (
          let split : e ≡ 4 * t.buckets + (e - 4 * t.buckets) = omega arith in
          let k : key_word t e ≡ key_word t (4 * t.buckets + (e - 4 * t.buckets)) = ap (key_word t) split in
          let r = s.reached (e - 4 * t.buckets) (is_linked t (e - 4 * t.buckets) s (omega arith) (omega arith)) (λ h. h) in
          let P : ℕ → Type 0 = λ g. Leads t g g r.0 (t.buckets + (e - 4 * t.buckets)) in
          let l : Leads t h h r.0 (t.buckets + (e - 4 * t.buckets)) = subst P (ap (home t.buckets) (sym k) ∙ at) r.1 in
          let no : h ≡ t.buckets + (e - 4 * t.buckets) = no_chain t h r.0 (t.buckets + (e - 4 * t.buckets)) l z in
          absurd (omega arith))
    ]

pub last_in_bucket : (t : Table) (k : BlockKey) (e l : ℕ) → IsSound t → bucket_of t.buckets k < t.buckets → IsFoundAt t k e → IsBucketEnd t (bucket_of t.buckets k) l → IsLast t (bucket_of t.buckets k) e l
last_in_bucket t k e l s lh x b =
    let p : b.index < 4 = b.low in
    let q : l ≡ 4 * bucket_of t.buckets k + b.index = b.here in
    record { low = x.low; last_low = omega arith; filled = x.filled; last_filled = b.filled; at_home = x.at_home; last_home = low_home t (bucket_of t.buckets k) b.index l s b.here b.low lh b.filled }

pub last_in_chain : (t : Table) (k : BlockKey) (e n j : ℕ) → IsSound t → IsFoundAt t k e → IsChainEnd t (bucket_of t.buckets k) n j → IsLast t (bucket_of t.buckets k) e (4 * t.buckets + n)
last_in_chain t k e n j s x c =
    let p : n < t.nodes = c.step.low in
    record { low = x.low; last_low = omega arith; filled = x.filled; last_filled = c.step.filled; at_home = x.at_home; last_home = c.step.at_home }

pub key_at : (t : Table) (k : BlockKey) (e : ℕ) → IsLookup t (word_of k) (bucket_of t.buckets k) (Found e) → IsCellAt t k (Found e) → IsKeyAt t k e
key_at t k e p c = let h = found_at t k e p c in record { low = h.low; filled = h.filled; key = h.key }
