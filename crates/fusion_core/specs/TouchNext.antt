-- The search for the next word on a seat's walk.
use Rattle.std.specs.Prelude.{◌≡◌, ℕ, suc, ◌+◌, ◌*◌, ◌<◌, ◌≤◌, List, [], length, ◌⊎◌}
use Rattle.spatial_hash.specs.Hash.{home}
use Rattle.spatial_hash.specs.Table.{Table, link_word}
use Rattle.fusion_core.specs.declared.touch.size.Size.{Size}
use Rattle.fusion_core.specs.TouchWords.{shown, link_at, LeadsPast}

-- a table of this size
abbrev pub sized : ℕ → ℕ → Table
sized b n = record { buckets = b; nodes = n; linked = 0; words = []; cells = [] }

-- a table of this size has words with numbers of 32 bits
pub record IsSize (s : Size) : Type 0 where
  pub some_buckets : 0 < s.buckets
  pub few_buckets : s.buckets ≤ 65536
  pub few_nodes : s.nodes ≤ 1000000

-- it is the size of this table
pub record IsSizeOf (t : Table) (s : Size) : Type 0 where
  pub buckets : s.buckets ≡ t.buckets
  pub nodes : s.nodes ≡ t.nodes
  pub size : IsSize s

-- word w is link j, or the key word of the node that this link was seen to lead to
abbrev pub IsHit : Table → List ℕ → ℕ → ℕ → Type 0
IsHit t us w j = (w ≡ link_at t j) ⊎ ((n : ℕ) × (w ≡ 4 * t.buckets + n) × (link_word (shown t us) j ≡ suc n))

-- from link l on, the links that were seen lead past other keys than k to word w
abbrev pub IsOnChain : Table → List ℕ → ℕ → ℕ → ℕ → Type 0
IsOnChain t us k l w = (ns : List ℕ) × (j : ℕ) × LeadsPast (shown t us) k l ns j × IsHit t us w j

-- each link that was seen on the chain of the key with word k is one of the table's, and where it leads to a node, this
-- is one of the table's, and fewer nodes than the table has come before it
abbrev pub IsShort : Table → List ℕ → ℕ → Type 0
IsShort t us k = (ns : List ℕ) (j : ℕ) → LeadsPast (shown t us) k (home t.buckets k) ns j
    → (j < t.buckets + t.nodes) × (0 < link_word (shown t us) j → (link_word (shown t us) j ≤ t.nodes) × (length ns < t.nodes))
