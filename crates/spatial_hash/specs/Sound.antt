-- What holds of every table.
use Rattle.std.specs.Prelude.{◌≡◌, ℕ, suc, ◌+◌, ◌*◌, ◌^◌, ◌<◌, ◌≤◌, List, [], ◌∷◌, length}
use Rattle.spatial_hash.specs.Hash.{home}
use Rattle.spatial_hash.specs.Table.{Table, entries_in, key_word, link_word}

-- node n, filled with a key of bucket h, is linked at link j
pub record IsStep (t : Table) (h j n : ℕ) : Type 0 where
  pub link : link_word t j ≡ suc n
  pub low : n < t.nodes
  pub filled : 0 < key_word t (4 * t.buckets + n)
  pub at_home : home t.buckets (key_word t (4 * t.buckets + n)) ≡ h

-- from link j on, the links lead over these nodes to link k
abbrev pub Leads : Table → ℕ → ℕ → List ℕ → ℕ → Type 0
Leads t h j [] k = j ≡ k
Leads t h j (n ∷ ns) k = IsStep t h j n × Leads t h (t.buckets + n) ns k

-- the chain of bucket h ends at link k
pub record EndsAt (t : Table) (h k : ℕ) : Type 0 where
  pub over : List ℕ
  pub leads : Leads t h h over k
  pub none : link_word t k ≡ 0
  pub few : length over ≤ t.linked

-- a table is sound but for holes, nodes below the count of the linked ones that are free: filled entries have different keys,
-- each on the walk of its bucket, and the other nodes below the count are linked
pub record IsSoundBut (t : Table) (IsHole : ℕ → Type 0) : Type 0 where
  pub some_buckets : 0 < t.buckets
  pub few_buckets : t.buckets ≤ 65536
  pub few_nodes : t.nodes ≤ 1000000
  pub few_linked : t.linked ≤ t.nodes
  pub wide : length t.words ≡ 5 * t.buckets + 2 * t.nodes
  pub long : length t.cells ≡ 4 * t.buckets + t.nodes
  -- each filled entry has the word of a key, and no two have the same
  pub named : (e : ℕ) → e < entries_in t → key_word t e ≤ 2 ^ 48
  pub differ : (d e : ℕ) → d < entries_in t → e < entries_in t → 0 < key_word t d → key_word t d ≡ key_word t e → d ≡ e
  -- the entries of a bucket are filled from the first on, by keys of this bucket
  pub at_home : (h i : ℕ) → h < t.buckets → i < 4 → 0 < key_word t (4 * h + i) → home t.buckets (key_word t (4 * h + i)) ≡ h
  pub prefix : (h i : ℕ) → h < t.buckets → i < 3 → 0 < key_word t (4 * h + suc i) → 0 < key_word t (4 * h + i)
  -- a bucket has a chain only where it is filled
  pub full : (h : ℕ) → h < t.buckets → 0 < link_word t h → 0 < key_word t (4 * h + 3)
  -- the chain of each bucket ends
  pub ends : (h : ℕ) → h < t.buckets → (k : ℕ) × EndsAt t h k
  -- each node below the count but a hole is filled, and on the chain of its key's bucket
  pub placed : (n : ℕ) → n < t.linked → ¬ IsHole n → 0 < key_word t (4 * t.buckets + n)
  pub reached : (n : ℕ) → n < t.linked → ¬ IsHole n → (ns : List ℕ) × Leads t (home t.buckets (key_word t (4 * t.buckets + n))) (home t.buckets (key_word t (4 * t.buckets + n))) ns (t.buckets + n)
  -- a hole is free, and so are the nodes from the count on
  pub hole : (n : ℕ) → IsHole n → (n < t.linked) × (key_word t (4 * t.buckets + n) ≡ 0) × (link_word t (t.buckets + n) ≡ 0)
  pub free : (n : ℕ) → t.linked ≤ n → n < t.nodes → (key_word t (4 * t.buckets + n) ≡ 0) × (link_word t (t.buckets + n) ≡ 0)

-- a table is sound: the linked nodes are those below their count
abbrev pub IsSound : Table → Type 0
IsSound t = IsSoundBut t (λ _. ⊥)
