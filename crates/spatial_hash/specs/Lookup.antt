-- What a look-up of a word in bucket h finds.
use Rattle.std.specs.Prelude.{◌≡◌, ◌≢◌, ◌⊎◌, ℕ, ◌+◌, ◌*◌, ◌^◌, ◌<◌, ◌≤◌, Some, None, slice_index}
use Rattle.std.specs.FinMap.{get}
use Rattle.voxel_block.specs.declared.key.BlockKey.{BlockKey}
use Rattle.spatial_hash.specs.Contents.{contents}
use Rattle.spatial_hash.specs.declared.lookup.Lookup.{Lookup}
use Rattle.spatial_hash.specs.declared.lookup.Lookup.TheVariants.{Found, Vacant, ChainEnd}
use Rattle.spatial_hash.specs.Hash.{home as home_of}
use Rattle.spatial_hash.specs.Table.{Table, entries_in, key_word}
use Rattle.spatial_hash.specs.Walk.{first_with, walk_of, chain_of, IsFilled}
use Rattle.spatial_hash.specs.Sound.{EndsAt}

-- e is the first free entry of bucket h
pub record IsFreeAt (t : Table) (h e : ℕ) : Type 0 where
  pub index : ℕ
  pub low : index < 4
  pub here : e ≡ 4 * h + index
  pub free : key_word t e ≡ 0
  pub before : (i : ℕ) → i < index → 0 < key_word t (4 * h + i)

-- the walk of bucket h finds the word at this entry, or it does not, and ends at this free entry or at this last link
abbrev pub IsLookup : Table → ℕ → ℕ → Lookup → Type 0
IsLookup t w h (Found e) = (first_with t w (walk_of t h) ≡ Some e) × (e < entries_in t)
IsLookup t w h (Vacant e) = (first_with t w (walk_of t h) ≡ None) × IsFreeAt t h e
IsLookup t w h (ChainEnd k) = (first_with t w (walk_of t h) ≡ None) × IsFilled t h × EndsAt t h k

-- the table as a map has the key with the cell of this entry, or does not have it
abbrev pub IsCellAt : Table → BlockKey → Lookup → Type 0
IsCellAt t k (Found e) = get (contents t) k ≡ Some (slice_index t.cells e)
IsCellAt t k (Vacant e) = get (contents t) k ≡ None
IsCellAt t k (ChainEnd j) = get (contents t) k ≡ None

-- the same for the chain of bucket h alone
abbrev pub IsChainLookup : Table → ℕ → ℕ → Lookup → Type 0
IsChainLookup t w h (Found e) = (first_with t w (chain_of t.nodes t h) ≡ Some e) × (e < entries_in t)
IsChainLookup t w h (Vacant e) = ⊥
IsChainLookup t w h (ChainEnd k) = (first_with t w (chain_of t.nodes t h) ≡ None) × EndsAt t h k

-- w is the word of a key that no entry has
pub record IsNew (t : Table) (w : ℕ) : Type 0 where
  pub some : 0 < w
  pub named : w ≤ 2 ^ 48
  pub at_home : home_of t.buckets w < t.buckets
  pub absent : first_with t w (walk_of t (home_of t.buckets w)) ≡ None

-- entry e took the word w of bucket h: the first free entry of the bucket, or, where this is filled, the first unlinked node
pub record Puts (t u : Table) (w h e : ℕ) : Type 0 where
  pub here : key_word u e ≡ w
  pub others : (d : ℕ) → d < entries_in t → d ≢ e → key_word u d ≡ key_word t d
  pub at : IsFreeAt t h e ⊎ (IsFilled t h × (e ≡ 4 * t.buckets + t.linked))
