-- The walk of a bucket: its 4 entries up to the first that is free, and, where all are filled, the nodes along the links.
use Rattle.std.specs.Prelude.{◌≡◌, ◌≢◌, ℕ, zero, suc, ◌+◌, ◌-◌, ◌*◌, ◌<◌, ◌==◌, List, [], ◌∷◌, Option, Some, None, cond, Bool, nat_lt}
use Rattle.voxel_block.specs.declared.key.BlockKey.{BlockKey}
use Rattle.voxel_block.specs.Words.{word_of, key_of}
use Rattle.spatial_hash.specs.Hash.{bucket_of}
use Rattle.spatial_hash.specs.Table.{Table, key_word, link_word}

-- the entries of the nodes along the links, from link j to a link of 0, at most `most` of them
unfoldable pub chain_of : ℕ → Table → ℕ → List ℕ
chain_of zero t j = []
chain_of (suc most) t j = cond (link_word t j == 0) [] ((4 * t.buckets + (link_word t j - 1)) ∷ chain_of most t (t.buckets + (link_word t j - 1)))

-- i entries from e on, up to the first free one, and then the others where none is free
unfoldable pub run_of : Table → List ℕ → ℕ → ℕ → List ℕ
run_of t others zero e = others
run_of t others (suc i) e = cond (key_word t e == 0) [] (e ∷ run_of t others i (e + 1))

-- the entries on the walk of bucket h, in order
unfoldable pub walk_of : Table → ℕ → List ℕ
walk_of t h = run_of t (chain_of t.nodes t h) 4 (4 * h)

-- the first of the entries that has this word
unfoldable pub first_with : Table → ℕ → List ℕ → Option ℕ
first_with t w [] = None
first_with t w (e ∷ es) = cond (key_word t e == w) (Some e) (first_with t w es)

-- the entry of a key: the first on its bucket's walk that has its word
unfoldable pub entry_of : Table → BlockKey → Option ℕ
entry_of t k = first_with t (word_of k) (walk_of t (bucket_of t.buckets k))

-- each key but this one has its old entry (the premise holds of all keys, whose coordinates have 16 bits)
abbrev pub StaysPut : Table → Table → BlockKey → Type 0
StaysPut old new key = (k : BlockKey) → key_of (word_of k) ≡ Some k → k ≢ key → entry_of new k ≡ entry_of old k

-- the 4 entries of bucket h are filled
abbrev pub IsFilled : Table → ℕ → Type 0
IsFilled t h = (i : ℕ) → i < 4 → 0 < key_word t (4 * h + i)

-- the same as a test, for a bucket whose filled entries come first
abbrev pub bucket_is_full : Table → ℕ → Bool
bucket_is_full t h = nat_lt 0 (key_word t (4 * h + 3))

-- no entry is left for the key: its bucket is filled, and all nodes are linked
abbrev pub IsFullFor : Table → BlockKey → Type 0
IsFullFor t k = IsFilled t (bucket_of t.buckets k) × (t.linked ≡ t.nodes)

-- the number of nodes that a new key takes: one where its bucket is filled
abbrev pub nodes_for : Table → BlockKey → ℕ
nodes_for t k = cond (bucket_is_full t (bucket_of t.buckets k)) 1 0

-- the number of nodes that the removal of a key frees: one where its bucket has a chain
abbrev pub nodes_from : Table → BlockKey → ℕ
nodes_from t k = cond (link_word t (bucket_of t.buckets k) == 0) 0 1
