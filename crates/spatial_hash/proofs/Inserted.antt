-- A table after an insertion.
use Rattle.std.proofs.Common.{◌≡◌, ℕ, ◌+◌, ◌*◌, ◌<◌, arith, refl, inl, inr, subst}
use Rattle.std.specs.Prelude.{Some, slice_index}
use Rattle.std.specs.FinMap.{insert}
use Rattle.voxel_block.specs.declared.key.BlockKey.{BlockKey}
use Rattle.voxel_block.specs.Words.{word_of}
use Rattle.spatial_hash.specs.Hash.{home, bucket_of}
use Rattle.spatial_hash.specs.Table.{Table, entries_in, key_word}
use Rattle.spatial_hash.specs.Changes.{written, extended}
use Rattle.spatial_hash.specs.Walk.{entry_of, IsFilled, StaysPut}
use Rattle.spatial_hash.specs.Contents.{contents, IsKeyAt}
use Rattle.spatial_hash.specs.Sound.{IsSound, EndsAt}
use Rattle.spatial_hash.specs.Lookup.{IsFreeAt, IsNew, Puts}
use Rattle.spatial_hash.proofs.Maps.{Takes, contents_taken}
use Rattle.spatial_hash.proofs.Filling.{filled_sound, here, there}
use Rattle.spatial_hash.proofs.Extending.{extended_sound, key_here, key_elsewhere}
use Rattle.spatial_hash.proofs.Homes.{IsWordOf, home_is, entry_of_key, takes_filled, takes_extended}
use Rattle.spatial_hash.proofs.Staying.{stays_taken}

-- u is t with a new key and its cell at entry e
pub record IsInserted (t u : Table) (e : ℕ) (k : BlockKey) (c : ℕ) : Type 0 where
  pub map : contents u ≡ insert (contents t) k c
  pub entry : entry_of u k ≡ Some e
  pub key : IsKeyAt u k e
  pub cell : slice_index u.cells e ≡ c
  pub others : StaysPut t u k
  pub puts : Puts t u (word_of k) (bucket_of t.buckets k) e

inserted : (t u : Table) (w e c : ℕ) (k : BlockKey) → IsSound t → IsSound u → IsWordOf w k → Takes t u e k c → key_word u e ≡ w → Puts t u w (home t.buckets w) e → IsInserted t u e k c
inserted t u w e c k s v i x is p =
    let low : e < entries_in t = x.low in
    let sized : entries_in u ≡ entries_in t = x.sized in
    let word : w ≡ word_of k = i.word in
    let P : ℕ → ℕ → Type 0 = λ y h. Puts t u y h e in
    record {
      map = contents_taken t u e k c s.differ v.differ x;
      entry = entry_of_key u w e k v i (omega arith) is;
      key = record { low = omega arith; filled = omega arith; key = x.key };
      cell = x.cell;
      others = stays_taken t u e k c s v x;
      puts = subst (P (word_of k)) (home_is t.buckets w k i.back) (subst (λ (y : ℕ). P y (home t.buckets w)) word p);
    }

-- a free entry of the key's bucket was filled
pub filled_inserts : (t : Table) (w c e : ℕ) (k : BlockKey) (s : IsSound t) (i : IsWordOf w k) (new : IsNew t w) (at : IsFreeAt t (home t.buckets w) e) → IsInserted t (written t e w c) e k c
filled_inserts t w c e k s i new at = inserted t (written t e w c) w e c k s (filled_sound t w c e s new at) i (takes_filled t w c e k s i new at) (here t w c e s new at)
    record { here = here t w c e s new at; others = λ d l ne. there t w c e s new at d ne; at = inl at }

-- the first unlinked node was filled and linked
pub extended_inserts : (t : Table) (w c j : ℕ) (k : BlockKey) (s : IsSound t) (i : IsWordOf w k) (new : IsNew t w) (full : IsFilled t (home t.buckets w)) (at : EndsAt t (home t.buckets w) j) (room : t.linked < t.nodes)
    → IsInserted t (extended t j w c) (4 * t.buckets + t.linked) k c
extended_inserts t w c j k s i new full at room =
    inserted t (extended t j w c) w (4 * t.buckets + t.linked) c k s (extended_sound t w c j s new full at room) i (takes_extended t w c j k s i new full at room) (key_here t w c j s new full at room)
    record { here = key_here t w c j s new full at room; others = key_elsewhere t w c j s new full at room; at = inr (full, refl) }
