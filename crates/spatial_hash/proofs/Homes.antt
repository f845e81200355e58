-- Keys and their words in a table.
use Rattle.std.proofs.Common.{◌≡◌, ◌≢◌, ℕ, ◌+◌, ◌*◌, ◌^◌, ◌<◌, ◌≤◌, refl, sym, ap, ◌∙◌, arith, length, set, List}
use Rattle.std.specs.Prelude.{Some, None, slice_index, Option}
use Rattle.std.proofs.lemmas.Nat.{mod_below}
use Rattle.std.proofs.lemmas.List.{get_or-set_same, get_or-set_other, length-set}
use Rattle.voxel_block.specs.declared.key.BlockKey.{BlockKey}
use Rattle.voxel_block.specs.Words.{word_of, key_of}
use Rattle.spatial_hash.specs.Hash.{home, home_in, bucket_of}
use Rattle.spatial_hash.specs.Table.{Table, entries_in, key_word}
use Rattle.spatial_hash.specs.Changes.{written, extended}
use Rattle.spatial_hash.specs.Walk.{entry_of, first_with, walk_of, IsFilled}
use Rattle.spatial_hash.specs.Sound.{IsSound, EndsAt, IsStep}
use Rattle.spatial_hash.specs.Lookup.{IsFreeAt, IsNew, IsLookup, IsCellAt}
use Rattle.spatial_hash.specs.declared.lookup.Lookup.{Lookup}
use Rattle.spatial_hash.specs.declared.lookup.Lookup.TheVariants.{Found, Vacant, ChainEnd}
use Rattle.std.specs.FinMap.{insert, get}
use Rattle.spatial_hash.specs.Contents.{contents}
use Rattle.spatial_hash.proofs.Maps.{contents_put, get_none, get_has, Takes}
use Rattle.spatial_hash.proofs.Places.{found, nowhere, first_has}
use Rattle.spatial_hash.proofs.Filling.{low, here, leads_kept}
use Rattle.spatial_hash.proofs.Extending.{key_here, key_elsewhere}

pub home_is : (b w : ℕ) (k : BlockKey) → key_of w ≡ Some k → home b w ≡ bucket_of b k
unfolding home
home_is b w k e = ap (home_in b) e

pub bucket_low : (b : ℕ) (k : BlockKey) → 0 < b → bucket_of b k < b
bucket_low b k p = mod_below _ b p

home_in_low : (b : ℕ) (o : Option BlockKey) → 0 < b → home_in b o < b
home_in_low b None p = p
home_in_low b (Some k) p = bucket_low b k p

pub home_low : (b w : ℕ) → 0 < b → home b w < b
unfolding home
home_low b w p = home_in_low b (key_of w) p

-- a word of a key
pub record IsWordOf (w : ℕ) (k : BlockKey) : Type 0 where
  pub word : w ≡ word_of k
  pub low : w ≤ 2 ^ 48
  pub back : key_of w ≡ Some k

pub new_key : (t : Table) (w : ℕ) (k : BlockKey) → IsSound t → IsWordOf w k → entry_of t k ≡ None → IsNew t w
unfolding entry_of
new_key t w k s i none =
    let e : home t.buckets w ≡ bucket_of t.buckets k = home_is t.buckets w k i.back in
    record {
      some = (let p : w ≡ word_of k = i.word in omega arith);
      named = i.low;
      at_home = rw e (bucket_low t.buckets k s.some_buckets);
      absent = rw (i.word, home_is t.buckets (word_of k) k (ap key_of (sym i.word) ∙ i.back)) none;
    }

pub entry_of_key : (t : Table) (w e : ℕ) (k : BlockKey) → IsSound t → IsWordOf w k → e < entries_in t → key_word t e ≡ w → entry_of t k ≡ Some e
unfolding entry_of
entry_of_key t w e k s i lt is =
    let h : home t.buckets w ≡ bucket_of t.buckets k = home_is t.buckets w k i.back in
    let some : 0 < w = (let p : w ≡ word_of k = i.word in omega arith) in
    let f : first_with t w (walk_of t (home t.buckets w)) ≡ Some e = found t e w s lt is some (rw h (bucket_low t.buckets k s.some_buckets)) in
    rw (← i.word, ← h) f

-- ---- what the map holds then

pub takes_filled : (t : Table) (w c e : ℕ) (k : BlockKey) (s : IsSound t) (i : IsWordOf w k) (new : IsNew t w) (at : IsFreeAt t (home t.buckets w) e) → Takes t (written t e w c) e k c
takes_filled t w c e k s i new at =
    let l : e < 4 * t.buckets = low t w c e s new at in
    let long : length t.cells ≡ 4 * t.buckets + t.nodes = s.long in
    record {
      low = omega arith;
      sized = refl;
      free = ap key_of at.free;
      key = ap key_of (here t w c e s new at) ∙ i.back;
      cell = get_or-set_same t.cells e c 0 (omega arith);
      others = λ d ld ne. (get_or-set_other t.words e d w 0 ne, get_or-set_other t.cells e d c 0 ne);
    }

pub takes_extended : (t : Table) (w c j : ℕ) (k : BlockKey) (s : IsSound t) (i : IsWordOf w k) (new : IsNew t w) (full : IsFilled t (home t.buckets w)) (at : EndsAt t (home t.buckets w) j) (room : t.linked < t.nodes)
    → Takes t (extended t j w c) (4 * t.buckets + t.linked) k c
takes_extended t w c j k s i new full at room =
    let long : length t.cells ≡ 4 * t.buckets + t.nodes = s.long in
    record {
      low = omega arith;
      sized = refl;
      free = ap key_of (s.free t.linked (omega arith) room).0;
      key = ap key_of (key_here t w c j s new full at room) ∙ i.back;
      cell = get_or-set_same t.cells (4 * t.buckets + t.linked) c 0 (omega arith);
      others = λ d ld ne. (key_elsewhere t w c j s new full at room d ld ne, get_or-set_other t.cells (4 * t.buckets + t.linked) d c 0 ne);
    }

absent_none : (t : Table) (k : BlockKey) → IsSound t → key_of (word_of k) ≡ Some k → first_with t (word_of k) (walk_of t (bucket_of t.buckets k)) ≡ None → get (contents t) k ≡ None
absent_none t k s back h =
    let e : home t.buckets (word_of k) ≡ bucket_of t.buckets k = home_is t.buckets (word_of k) k back in
    get_none t k (nowhere t (word_of k) s (omega arith) (rw e (bucket_low t.buckets k s.some_buckets)) (rw e h))

cell_by : (t : Table) (k : BlockKey) (p : Lookup) → IsSound t → key_of (word_of k) ≡ Some k → IsLookup t (word_of k) (bucket_of t.buckets k) p → IsCellAt t k p
cell_by t k (Found e) s back h = get_has t k (slice_index t.cells e) s.differ (record { at = e; low = h.1; key = ap key_of (first_has t (word_of k) e _ h.0) ∙ back; cell = refl })
cell_by t k (Vacant e) s back h = absent_none t k s back h.0
cell_by t k (ChainEnd j) s back h = absent_none t k s back h.0

pub cell_at : (t : Table) (k : BlockKey) (w : ℕ) (p : Lookup) → IsSound t → IsWordOf w k → IsLookup t (word_of k) (bucket_of t.buckets k) p → IsCellAt t k p
cell_at t k w p s i h = cell_by t k p s (ap key_of (sym i.word) ∙ i.back) h

-- ---- another cell

abbrev pub recelled : Table → ℕ → ℕ → Table
recelled t e c = record t { cells = set t.cells e c }

kept : (t : Table) (cs : List ℕ) (h j n : ℕ) → IsStep t h j n → IsStep (record t { cells = cs }) h j n
kept t cs h j n r = record { link = r.link; low = r.low; filled = r.filled; at_home = r.at_home }

kept_end : (t : Table) (cs : List ℕ) (h k : ℕ) → EndsAt t h k → EndsAt (record t { cells = cs }) h k
kept_end t cs h k r = record { over = r.over; leads = leads_kept t t.words cs t.linked h (kept t cs h) r.over h k r.leads; none = r.none; few = r.few }

pub recelled_sound : (t : Table) (e c : ℕ) → IsSound t → IsSound (recelled t e c)
recelled_sound t e c s = record {
  some_buckets = s.some_buckets;
  few_buckets = s.few_buckets;
  few_nodes = s.few_nodes;
  few_linked = s.few_linked;
  wide = s.wide;
  long = length-set t.cells e c ∙ s.long;
  named = s.named;
  differ = s.differ;
  at_home = s.at_home;
  prefix = s.prefix;
  full = s.full;
  ends = λ h lt. ((s.ends h lt).0, kept_end t (set t.cells e c) h (s.ends h lt).0 (s.ends h lt).1);
  placed = s.placed;
  reached = λ n lt no. (let h = home t.buckets (key_word t (4 * t.buckets + n)) in
      ((s.reached n lt no).0, leads_kept t t.words (set t.cells e c) t.linked h (kept t (set t.cells e c) h) (s.reached n lt no).0 h (t.buckets + n) (s.reached n lt no).1));
  hole = s.hole;
  free = s.free;
}

pub taken_recelled : (t : Table) (e c : ℕ) (k : BlockKey) → IsSound t → e < entries_in t → key_of (key_word t e) ≡ Some k → contents (recelled t e c) ≡ insert (contents t) k c
taken_recelled t e c k s low is =
    let long : length t.cells ≡ 4 * t.buckets + t.nodes = s.long in
    contents_put t (recelled t e c) k c s.differ (recelled_sound t e c s).differ (record { at = e; low = low; key = is; cell = get_or-set_same t.cells e c 0 (omega arith) })
    (λ q x ne h. (let other : h.at ≢ e = λ he. (let z : Some q ≡ Some k = sym h.key ∙ ap (λ (d : ℕ). key_of (key_word t d)) he ∙ is in let z2 : q ≡ k = cc in ne z2) in
    record { at = h.at; low = h.low; key = h.key; cell = get_or-set_other t.cells e h.at c 0 other ∙ h.cell }))
    (λ q x ne h. (let other : h.at ≢ e = λ he. (let z : Some q ≡ Some k = sym h.key ∙ ap (λ (d : ℕ). key_of (key_word t d)) he ∙ is in let z2 : q ≡ k = cc in ne z2) in
    record { at = h.at; low = h.low; key = h.key; cell = sym (get_or-set_other t.cells e h.at c 0 other) ∙ h.cell }))
