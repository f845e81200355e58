-- How a share's keys come into a table again.
use Rattle.std.specs.Prelude.{◌≡◌, ℕ, ◌+◌, ◌-◌, ◌*◌, ◌<◌, ◌≤◌, List, length, slice_index, nat_lt, Bool, true, false, Some, count_by}
use Rattle.std.specs.FinMap.{get, insert, len}
use Rattle.voxel_block.specs.declared.key.BlockKey.{BlockKey}
use Rattle.voxel_block.specs.Words.{key_of}
use Rattle.spatial_hash.specs.Table.{Table, entries_in, key_word}
use Rattle.spatial_hash.specs.Hash.{bucket_of}
use Rattle.spatial_hash.specs.Walk.{nodes_for}
use Rattle.spatial_hash.specs.Contents.{contents, pairs_from}
use Rattle.spatial_hash.specs.Sound.{IsSound}
use Rattle.spatial_hash.specs.Lookup.{Puts}
use Rattle.hash_share.specs.declared.view.View.{View}
use Rattle.fusion_core.specs.TouchCounts.{times, firsts}
use Rattle.fusion_core.specs.TouchWords.{drawn}
use Rattle.fusion_core.specs.TouchRule.{IsWalked, IsDealt, IsPlaced, Fits}
use Rattle.hash_share.specs.Rule.{seat_in}
use Rattle.hash_share.specs.Seats.{cell_in}

-- the words and the view of the seat that has the whole part, when no other seat is left
pub record IsEnd (start : Table) (ws : List ℕ) (v : View) : Type 0 where
  pub sound : IsSound start
  pub walks : IsWalked start ws
  pub dealt : IsDealt start ws (λ n. firsts n v.nodes)
  pub origin : IsPlaced start ws (λ x. times x v.placed)
  pub fits : Fits start ws (seat_in v)

-- a table took a new key
pub record Gains (t u : Table) (k : BlockKey) (w c : ℕ) : Type 0 where
  pub map : contents u ≡ insert (contents t) k c
  pub entry : ℕ
  pub puts : Puts t u w (bucket_of t.buckets k) entry
  pub size : (u.buckets ≡ t.buckets) × (u.nodes ≡ t.nodes)
  pub count : u.linked ≡ t.linked + nodes_for t k

-- the key with word w came in, unless there is none or its entry is a spare node's
pub record IsPutBack (t u : Table) (w c : ℕ) (spare : Bool) : Type 0 where
  pub skipped : spare ≡ true → u ≡ t
  pub empty : w ≡ 0 → u ≡ t
  pub put : spare ≡ false → 0 < w → (k : BlockKey) → key_of w ≡ Some k → Gains t u k w c

-- the spare nodes below n
abbrev pub below : ℕ → List (ℕ × ℕ) → ℕ
below n l = count_by (λ p. nat_lt p.0 n) l

-- entry d has a key on a walk
abbrev pub IsLive : Table → List ℕ → View → ℕ → Type 0
IsLive start ws v d = (0 < slice_index ws d) × ((n : ℕ) → d ≡ 4 * start.buckets + n → firsts n v.nodes ≡ 0)

-- the keys of the first e entries are in the table r
pub record IsRefilled (start : Table) (ws : List ℕ) (v : View) (r : Table) (e : ℕ) : Type 0 where
  pub size : (r.buckets ≡ start.buckets) × (r.nodes ≡ start.nodes)
  pub same : (d : ℕ) → d < 4 * start.buckets → d < e → key_word r d ≡ slice_index ws d
  pub free : (d : ℕ) → d < 4 * start.buckets → e ≤ d → key_word r d ≡ 0
  pub has : (d : ℕ) (k : BlockKey) → d < e → d < entries_in start → IsLive start ws v d → key_of (slice_index ws d) ≡ Some k → get (contents r) k ≡ Some (cell_in start d)
  pub only : (k : BlockKey) (c : ℕ) → get (contents r) k ≡ Some c → (d : ℕ) × (d < e) × (d < entries_in start) × IsLive start ws v d × (key_of (slice_index ws d) ≡ Some k) × (c ≡ cell_in start d)
  pub linked : r.linked ≤ e - 4 * start.buckets
  pub many : start.nodes ≤ drawn start ws → e - 4 * start.buckets ≤ r.linked + below (e - 4 * start.buckets) v.nodes
  pub count : start.nodes ≤ drawn start ws
      → len (contents start) + (e - 4 * start.buckets - start.linked) ≤ len (contents r) + below (e - 4 * start.buckets) v.nodes + length (pairs_from (entries_in start - e) start e)
