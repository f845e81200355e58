-- The words that seats touch at once: those of a hash table, and after them a counter, the number that the next draw of a node gives.
-- What a seat has seen is such a list of words too, with 0 for a word that it has not seen.
use Rattle.std.specs.Prelude.{◌≡◌, ◌≢◌, ℕ, suc, ◌+◌, ◌*◌, ◌<◌, List, [], ◌∷◌, slice_index, ◌⊎◌}
use Rattle.spatial_hash.specs.Table.{Table, key_word, link_word}

-- the table with these words
abbrev pub shown : Table → List ℕ → Table
shown start ws = record start { words = ws; linked = start.nodes }

-- the number of the word that counts
abbrev pub counter_at : Table → ℕ
counter_at t = 5 * t.buckets + 2 * t.nodes

-- the number that the next draw gives
abbrev pub drawn : Table → List ℕ → ℕ
drawn start ws = slice_index ws (counter_at start)

-- the number of the word of link j
abbrev pub link_at : Table → ℕ → ℕ
link_at t j = 4 * t.buckets + t.nodes + j

-- a link leads to node n
abbrev pub IsLed : Table → ℕ → Type 0
IsLed t n = (j : ℕ) × (j < t.buckets + t.nodes) × (link_word t j ≡ suc n)

-- entry e is one of a bucket, or that of a node that a link leads to
abbrev pub IsOnWalk : Table → ℕ → Type 0
IsOnWalk t e = (e < 4 * t.buckets) ⊎ ((n : ℕ) × (e ≡ 4 * t.buckets + n) × IsLed t n)

-- the first i entries of bucket h are filled with other words than k
abbrev pub Passes : Table → ℕ → ℕ → ℕ → Type 0
Passes t k h i = (a : ℕ) → a < i → (0 < key_word t (4 * h + a)) × (key_word t (4 * h + a) ≢ k)

-- from link j the links lead over these nodes, which are filled with other words than k, to link l
abbrev pub LeadsPast : Table → ℕ → ℕ → List ℕ → ℕ → Type 0
LeadsPast t k j [] l = j ≡ l
LeadsPast t k j (n ∷ ns) l = (link_word t j ≡ suc n) × (0 < key_word t (4 * t.buckets + n)) × (key_word t (4 * t.buckets + n) ≢ k) × LeadsPast t k (t.buckets + n) ns l
