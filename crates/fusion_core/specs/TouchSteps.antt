-- The steps of a seat: when each may be made, and what it leaves.
use Rattle.std.specs.Prelude.{◌≡◌, ℕ, suc, ◌+◌, ◌*◌, ◌<◌, ◌==◌, List, [], ◌∷◌, ◌++◌, slice_set, cond, nat_lt, ◌⊎◌}
use Rattle.spatial_hash.specs.Hash.{home}
use Rattle.spatial_hash.specs.Table.{Table, entries_in, link_word}
use Rattle.fusion_core.specs.TouchSeats.{SeatState}
use Rattle.fusion_core.specs.TouchCounts.{has_first}
use Rattle.fusion_core.specs.TouchWords.{shown, link_at, Passes, LeadsPast}

-- ---- the next word on a seat's walk, for the key with word k, over what the seat has seen
-- The walk of a bucket in words is its 4 key words, its link, and then for each linked node its key word and its link.
-- A word is next where each word before it was seen, and no key word before it is k.

-- link j is next: the 4 entries were passed, and the links lead to it
abbrev pub IsNextLink : Table → List ℕ → ℕ → ℕ → Type 0
IsNextLink t us k j = Passes (shown t us) k (home t.buckets k) 4 × ((ns : List ℕ) × LeadsPast (shown t us) k (home t.buckets k) ns j)

-- key word e is next: it is entry i of the bucket, and those before it were passed, or it is that of the node that a next link was seen to lead to
abbrev pub IsNextKey : Table → List ℕ → ℕ → ℕ → Type 0
IsNextKey t us k e = ((i : ℕ) × (i < 4) × (e ≡ 4 * home t.buckets k + i) × Passes (shown t us) k (home t.buckets k) i)
    ⊎ ((j : ℕ) × (n : ℕ) × (e ≡ 4 * t.buckets + n) × IsNextLink t us k j × (link_word (shown t us) j ≡ suc n))

-- word w is next
abbrev pub IsNext : Table → List ℕ → ℕ → ℕ → Type 0
IsNext t us k w = IsNextKey t us k w ⊎ ((j : ℕ) × (w ≡ link_at t j) × IsNextLink t us k j)

-- ---- what a step leaves of the seat

-- the touched list, after word r was seen at entry e in a step for the key with word k: where r is k, the key comes last with e,
-- unless the list has it already
abbrev pub touched_after : ℕ → ℕ → ℕ → List (ℕ × ℕ) → List (ℕ × ℕ)
touched_after k e r ts = cond (r == k) (cond (has_first k ts) ts (ts ++ (k, e) ∷ [])) ts

-- word w was seen to be r
abbrev pub saw : ℕ → ℕ → SeatState → SeatState
saw w r v = record v { seen = slice_set v.seen w r }

-- key word e was seen to be r, in a step for the key with word k
abbrev pub found : ℕ → ℕ → ℕ → SeatState → SeatState
found k e r v = record v { seen = slice_set v.seen e r; touched = touched_after k e r v.touched }

-- the seat after it saw word w to be r, in a step for the key with word k: a word that is 0 tells nothing, and a link touches nothing
abbrev pub seen_after : Table → ℕ → ℕ → ℕ → SeatState → SeatState
seen_after t k w r v = cond (r == 0) v (cond (nat_lt w (entries_in t)) (found k w r v) (saw w r v))

-- the key with word k was placed at entry e
abbrev pub put : ℕ → ℕ → SeatState → SeatState
put k e v = record v { seen = slice_set v.seen e k; touched = touched_after k e k v.touched; placed = v.placed ++ k ∷ [] }

-- what a seat adds to the counter when it draws: 1, and 0 where it has a mark
abbrev pub draw_of : SeatState → ℕ
draw_of v = cond (v.mark == 0) 1 0

-- node n was drawn
abbrev pub drew : ℕ → SeatState → SeatState
drew n v = record v { nodes = (n, 0) ∷ v.nodes }

-- number n, at or past the number of nodes, was drawn
abbrev pub past : ℕ → SeatState → SeatState
past n v = record v { mark = suc n }

-- number n was drawn, where there are so many nodes
abbrev pub drawn_after : ℕ → ℕ → SeatState → SeatState
drawn_after nodes n v = cond (nat_lt n nodes) (drew n v) (past n v)

-- the last unlinked node and its word, (0, 0) where there is none
abbrev pub last_node : List (ℕ × ℕ) → ℕ × ℕ
last_node [] = (0, 0)
last_node (p ∷ ps) = p

-- the unlinked nodes without the last one
abbrev pub without_last : List (ℕ × ℕ) → List (ℕ × ℕ)
without_last [] = []
without_last (p ∷ ps) = ps

-- the unlinked nodes with another word in the last one
abbrev pub refilled : ℕ → List (ℕ × ℕ) → List (ℕ × ℕ)
refilled x [] = []
refilled x (p ∷ ps) = (p.0, x) ∷ ps

-- word x was stored in the last unlinked node
abbrev pub stored : ℕ → SeatState → SeatState
stored x v = record v { nodes = refilled x v.nodes }

-- the last unlinked node n, with entry e and the key with word k, was linked at word w
abbrev pub hung : ℕ → ℕ → ℕ → ℕ → SeatState → SeatState
hung k w n e v = record v { seen = slice_set (slice_set v.seen w (suc n)) e k; touched = touched_after k e k v.touched; placed = v.placed ++ k ∷ []; nodes = without_last v.nodes }
