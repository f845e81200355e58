-- What a removal knows before it writes.
use Rattle.std.specs.Prelude.{◌≡◌, ℕ, suc, ◌+◌, ◌*◌, ◌<◌, List}
use Rattle.spatial_hash.specs.Hash.{home}
use Rattle.spatial_hash.specs.Table.{Table, entries_in, key_word, link_word}
use Rattle.spatial_hash.specs.Sound.{IsStep, Leads}

-- entry e has a key of bucket h, and so has entry l
pub record IsLast (t : Table) (h e l : ℕ) : Type 0 where
  pub low : e < entries_in t
  pub last_low : l < entries_in t
  pub filled : 0 < key_word t e
  pub last_filled : 0 < key_word t l
  pub at_home : home t.buckets (key_word t e) ≡ h
  pub last_home : home t.buckets (key_word t l) ≡ h

-- l is the last filled entry of a bucket that has no chain
pub record IsBucketEnd (t : Table) (h l : ℕ) : Type 0 where
  pub index : ℕ
  pub low : index < 4
  pub here : l ≡ 4 * h + index
  pub filled : 0 < key_word t l
  pub after : index < 3 → key_word t (4 * h + suc index) ≡ 0

-- n is the last node of the chain of bucket h, and link j leads to it
pub record IsChainEnd (t : Table) (h n j : ℕ) : Type 0 where
  pub over : List ℕ
  pub leads : Leads t h h over j
  pub step : IsStep t h j n
  pub none : link_word t (t.buckets + n) ≡ 0

-- link j leads to node n, in the chain of bucket h
pub record LeadsTo (t : Table) (h n j : ℕ) : Type 0 where
  pub over : List ℕ
  pub leads : Leads t h h over j
  pub step : IsStep t h j n
