-- Keys that keep their entries.
use Rattle.std.proofs.Common.{◌≡◌, ◌≢◌, ℕ, zero, suc, ◌+◌, ◌-◌, ◌*◌, ◌^◌, ◌<◌, ◌≤◌, List, [], ◌∷◌, length, refl, sym, ap, ◌∙◌, arith, inl, inr}
use Rattle.std.specs.Prelude.{◌==◌, Some, None, Option, cond}
use Rattle.std.proofs.lemmas.Bool.{cases_eq}
use Rattle.voxel_block.specs.declared.key.BlockKey.{BlockKey}
use Rattle.voxel_block.specs.Words.{word_of, key_of}
use Rattle.spatial_hash.specs.Hash.{bucket_of}
use Rattle.spatial_hash.specs.Table.{Table, entries_in, key_word, link_word}
use Rattle.spatial_hash.specs.Walk.{chain_of, run_of, walk_of, first_with, entry_of, StaysPut}
use Rattle.spatial_hash.specs.Sound.{Leads, EndsAt, IsSound}
use Rattle.spatial_hash.specs.Lookup.{IsLookup, IsCellAt}
use Rattle.spatial_hash.specs.declared.lookup.Lookup.{Lookup}
use Rattle.spatial_hash.specs.declared.lookup.Lookup.TheVariants.{Found, Vacant, ChainEnd}
use Rattle.std.specs.FinMap.{get}
use Rattle.spatial_hash.specs.Contents.{contents}
use Rattle.spatial_hash.proofs.Walks.{first_here, first_later, first_none, run_filled, run_free, run_out, chain_is, entries_of}
use Rattle.spatial_hash.proofs.Places.{first_has}
use Rattle.spatial_hash.proofs.Maps.{same_options, Takes}
use Rattle.spatial_hash.proofs.Homes.{bucket_low, entry_of_key}

-- ---- a walk meets entries of the table

first_of_nodes : (t : Table) (h w e : ℕ) (ns : List ℕ) (j k : ℕ) → Leads t h j ns k → first_with t w (entries_of t ns) ≡ Some e → e < entries_in t
first_of_nodes t h w e [] j k l f = let q : ◌≡◌ None (Some e) = sym (first_none t w) ∙ f in absurd (cc)
first_of_nodes t h w e (n ∷ ns) j k l f =
    elim (cases_eq (key_word t (4 * t.buckets + n)) w) [
      | inl same ↦ (
          let q : Some (4 * t.buckets + n) ≡ Some e = sym (first_here t w (4 * t.buckets + n) (entries_of t ns) same) ∙ f in
          let one : 4 * t.buckets + n ≡ e = cc in
          let low : n < t.nodes = l.0.low in
          omega arith)
      | inr other ↦ first_of_nodes t h w e ns (t.buckets + n) k l.1 (sym (first_later t w (4 * t.buckets + n) (entries_of t ns) other) ∙ f)
    ]

first_of_run : (t : Table) (os : List ℕ) (w e i a : ℕ) → first_with t w (run_of t os i a) ≡ Some e → a + i ≤ 4 * t.buckets → (first_with t w os ≡ Some e → e < entries_in t) → e < entries_in t
first_of_run t os w e zero a f low rest = rest (sym (ap (first_with t w) (run_out t os a)) ∙ f)
first_of_run t os w e (suc i) a f low rest =
    elim (cases_eq (key_word t a) 0) [
      | inl z ↦ (let q : ◌≡◌ None (Some e) = sym (first_none t w) ∙ sym (ap (first_with t w) (run_free t os i a z)) ∙ f in absurd (cc))
      | inr some ↦ (
          let g : first_with t w (a ∷ run_of t os i (a + 1)) ≡ Some e = sym (ap (first_with t w) (run_filled t os i a (omega arith))) ∙ f in
          elim (cases_eq (key_word t a) w) [
            | inl same ↦ (
                let q : Some a ≡ Some e = sym (first_here t w a (run_of t os i (a + 1)) same) ∙ g in
                let one : a ≡ e = cc in
                omega arith)
            | inr other ↦ first_of_run t os w e i (a + 1) (sym (first_later t w a (run_of t os i (a + 1)) other) ∙ g) (omega arith) rest
          ])
    ]

walk_low : (t : Table) (h w e : ℕ) → IsSound t → h < t.buckets → first_with t w (walk_of t h) ≡ Some e → e < entries_in t
unfolding walk_of
walk_low t h w e s lt f =
    let at : EndsAt t h (s.ends h lt).0 = (s.ends h lt).1 in
    let few : length at.over ≤ t.linked = at.few in
    let le : t.linked ≤ t.nodes = s.few_linked in
    first_of_run t (chain_of t.nodes t h) w e 4 (4 * h) f (omega arith)
    (λ g. first_of_nodes t h w e at.over h (s.ends h lt).0 at.leads (sym (ap (first_with t w) (chain_is t h t.nodes h at.over (s.ends h lt).0 at.leads at.none (omega arith))) ∙ g))

-- ---- where the same entries have a key's word, it has the same entry

-- entry e has this word of a key
record At (t : Table) (k : BlockKey) (e : ℕ) : Type 0 where
  low : e < entries_in t
  word : key_word t e ≡ word_of k

at_entry : (t : Table) (k : BlockKey) (e : ℕ) → IsSound t → entry_of t k ≡ Some e → At t k e
unfolding entry_of
at_entry t k e s f = record {
  low = walk_low t (bucket_of t.buckets k) (word_of k) e s (bucket_low t.buckets k s.some_buckets) f;
  word = first_has t (word_of k) e (walk_of t (bucket_of t.buckets k)) f;
}

entry_at : (t : Table) (k : BlockKey) (e : ℕ) → IsSound t → key_of (word_of k) ≡ Some k → At t k e → entry_of t k ≡ Some e
entry_at t k e s back a =
    let named : key_word t e ≤ 2 ^ 48 = s.named e a.low in
    entry_of_key t (word_of k) e k s (record { word = refl; low = rw a.word at named; back = back }) a.low a.word

same_entry : (t u : Table) (k : BlockKey) → IsSound t → IsSound u → key_of (word_of k) ≡ Some k → ((e : ℕ) → At t k e → At u k e) → ((e : ℕ) → At u k e → At t k e) → entry_of u k ≡ entry_of t k
same_entry t u k s v back to from =
    same_options (entry_of u k) (entry_of t k)
    (λ e f. entry_at t k e s back (from e (at_entry u k e v f)))
    (λ e f. entry_at u k e v back (to e (at_entry t k e s f)))

-- an entry that was free takes a key
pub stays_taken : (t u : Table) (e : ℕ) (key : BlockKey) (c : ℕ) → IsSound t → IsSound u → Takes t u e key c → StaysPut t u key
stays_taken t u e key c s v x k back ne =
    same_entry t u k s v back
    (λ d a. (
    let new : d ≢ e = λ q. (let z : ◌≡◌ None (Some k) = sym x.free ∙ ap (λ (y : ℕ). key_of (key_word t y)) (sym q) ∙ ap key_of a.word ∙ back in absurd (cc)) in
    let low : d < entries_in t = a.low in
    let sized : entries_in u ≡ entries_in t = x.sized in
    record { low = omega arith; word = (x.others d a.low new).0 ∙ a.word }))
    (λ d a. (
    let new : d ≢ e = λ q. (let z : Some key ≡ Some k = sym x.key ∙ ap (λ (y : ℕ). key_of (key_word u y)) (sym q) ∙ ap key_of a.word ∙ back in let z2 : k ≡ key = cc in ne z2) in
    let low : d < entries_in u = a.low in
    let sized : entries_in u ≡ entries_in t = x.sized in
    let under : d < entries_in t = omega arith in
    record { low = under; word = sym (x.others d under new).0 ∙ a.word }))

-- ---- another cell changes no key's entry

chain_recelled : (m : ℕ) (t : Table) (cs : List ℕ) (j : ℕ) → chain_of m (record t { cells = cs }) j ≡ chain_of m t j
unfolding chain_of
chain_recelled zero t cs j = refl
chain_recelled (suc m) t cs j = ap (λ (xs : List ℕ). cond (link_word t j == 0) [] ((4 * t.buckets + (link_word t j - 1)) ∷ xs)) (chain_recelled m t cs (t.buckets + (link_word t j - 1)))

run_recelled : (t : Table) (cs os : List ℕ) (i e : ℕ) → run_of (record t { cells = cs }) os i e ≡ run_of t os i e
unfolding run_of
run_recelled t cs os zero e = refl
run_recelled t cs os (suc i) e = ap (λ (xs : List ℕ). cond (key_word t e == 0) [] (e ∷ xs)) (run_recelled t cs os i (e + 1))

first_recelled : (t : Table) (cs : List ℕ) (w : ℕ) (es : List ℕ) → first_with (record t { cells = cs }) w es ≡ first_with t w es
unfolding first_with
first_recelled t cs w [] = refl
first_recelled t cs w (e ∷ es) = ap (λ (o : Option ℕ). cond (key_word t e == w) (Some e) o) (first_recelled t cs w es)

walk_recelled : (t : Table) (cs : List ℕ) (h : ℕ) → walk_of (record t { cells = cs }) h ≡ walk_of t h
unfolding walk_of
walk_recelled t cs h = run_recelled t cs (chain_of t.nodes (record t { cells = cs }) h) 4 (4 * h) ∙ ap (λ (os : List ℕ). run_of t os 4 (4 * h)) (chain_recelled t.nodes t cs h)

pub entry_recelled : (t : Table) (cs : List ℕ) (k : BlockKey) → entry_of (record t { cells = cs }) k ≡ entry_of t k
unfolding entry_of
entry_recelled t cs k = first_recelled t cs (word_of k) (walk_of (record t { cells = cs }) (bucket_of t.buckets k)) ∙ ap (first_with t (word_of k)) (walk_recelled t cs (bucket_of t.buckets k))

-- ---- a key that the map does not have has no entry

pub entry_absent : (t : Table) (k : BlockKey) (p : Lookup) → IsLookup t (word_of k) (bucket_of t.buckets k) p → IsCellAt t k p → get (contents t) k ≡ None → entry_of t k ≡ None
unfolding entry_of
entry_absent t k (Found e) s c none = let q : ◌≡◌ {A = Option ℕ} None (Some _) = sym none ∙ c in absurd (cc)
entry_absent t k (Vacant e) s c none = s.0
entry_absent t k (ChainEnd j) s c none = s.0
