-- The rule of touching: what holds of the words and of all seats between any two steps.
use Rattle.std.specs.Prelude.{◌≡◌, ℕ, suc, ◌+◌, ◌*◌, ◌^◌, ◌<◌, ◌≤◌, ◌==◌, List, [], length, slice_index, cond, sum_by}
use mathlib.Core.Option.{some}
use lib.ListN.{get_elem?}
use Rattle.spatial_hash.specs.Table.{Table, entries_in, key_word, link_word}
use Rattle.spatial_hash.specs.Hash.{home}
use Rattle.spatial_hash.specs.Sound.{Leads, EndsAt, IsSound}
use Rattle.fusion_core.specs.TouchSeats.{SeatState}
use Rattle.fusion_core.specs.TouchCounts.{times, pairs_at, firsts}
use Rattle.fusion_core.specs.TouchWords.{shown, counter_at, drawn, IsLed, IsOnWalk}

-- the walks of the words
pub record IsWalked (start : Table) (ws : List ℕ) : Type 0 where
  pub wide : length ws ≡ counter_at start + 1
  pub named : (e : ℕ) → e < entries_in start → slice_index ws e ≤ 2 ^ 48
  pub low : (j : ℕ) → j < start.buckets + start.nodes → link_word (shown start ws) j ≤ start.nodes
  -- the entries of a bucket are filled from the first on, by keys of this bucket
  pub at_home : (h i : ℕ) → h < start.buckets → i < 4 → 0 < slice_index ws (4 * h + i) → home start.buckets (slice_index ws (4 * h + i)) ≡ h
  pub prefix : (h i : ℕ) → h < start.buckets → i < 3 → 0 < slice_index ws (4 * h + suc i) → 0 < slice_index ws (4 * h + i)
  -- a bucket has a link only where it is filled
  pub full : (h : ℕ) → h < start.buckets → 0 < link_word (shown start ws) h → 0 < slice_index ws (4 * h + 3)
  -- the chain of each bucket ends
  pub ends : (h : ℕ) → h < start.buckets → (k : ℕ) × EndsAt (shown start ws) h k
  -- a node that no link leads to has link 0
  pub still : (n : ℕ) → n < start.nodes → (IsLed (shown start ws) n → ⊥) → link_word (shown start ws) (start.buckets + n) ≡ 0
  -- keys on walks differ
  pub differ : (d e : ℕ) → IsOnWalk (shown start ws) d → IsOnWalk (shown start ws) e → 0 < slice_index ws d → slice_index ws d ≡ slice_index ws e → d ≡ e
  -- the keys of the start stay where they were
  pub kept : (e : ℕ) → e < entries_in start → 0 < key_word start e → slice_index ws e ≡ key_word start e

-- where the nodes are, where node n is an unlinked node of `owners n` seats
pub record IsDealt (start : Table) (ws : List ℕ) (owners : ℕ → ℕ) : Type 0 where
  pub grown : start.linked ≤ drawn start ws
  -- a node from the counter on is on no walk and free
  pub fresh : (n : ℕ) → n < start.nodes → drawn start ws ≤ n → (IsLed (shown start ws) n → ⊥) × (slice_index ws (4 * start.buckets + n) ≡ 0) × (owners n ≡ 0)
  -- an unlinked node of a seat is one below the counter, and on no walk
  pub spare : (n : ℕ) → 0 < owners n → (n < start.nodes) × (n < drawn start ws) × (start.linked ≤ n) × (IsLed (shown start ws) n → ⊥)
  pub once : (n : ℕ) → owners n ≤ 1
  -- the others below the counter are filled and on the walk of their key's bucket
  pub walked : (n : ℕ) → n < start.nodes → n < drawn start ws → owners n ≡ 0
      → (0 < slice_index ws (4 * start.buckets + n)) × ((ns : List ℕ) × Leads (shown start ws) (home start.buckets (slice_index ws (4 * start.buckets + n))) (home start.buckets (slice_index ws (4 * start.buckets + n))) ns (start.buckets + n))

-- where the keys on the walks come from, where the key with word x stands `placed x` times in the placed lists
pub record IsPlaced (start : Table) (ws : List ℕ) (placed : ℕ → ℕ) : Type 0 where
  pub once : (x : ℕ) → placed x ≤ 1
  -- a placed key is on a walk, at an entry that was free at the start
  pub there : (x : ℕ) → 0 < placed x → (e : ℕ) × (e < entries_in start) × IsOnWalk (shown start ws) e × (slice_index ws e ≡ x) × (key_word start e ≡ 0) × (0 < x)
  -- a key on a walk, at an entry that was free at the start, was placed
  pub back : (e : ℕ) → e < entries_in start → IsOnWalk (shown start ws) e → 0 < slice_index ws e → key_word start e ≡ 0 → 0 < placed (slice_index ws e)

-- what one seat knows and has is so
pub record Fits (start : Table) (ws : List ℕ) (v : SeatState) : Type 0 where
  pub wide : 0 < v.part → length v.seen ≡ length ws
  -- what it has seen of a word is the word's value
  pub seen : (w : ℕ) → w < counter_at start → 0 < slice_index v.seen w → slice_index ws w ≡ slice_index v.seen w
  -- it has seen nothing of the key of a node that is on no walk, and of its link neither, which is 0
  pub blind : (n : ℕ) → n < start.nodes → (IsLed (shown start ws) n → ⊥) → slice_index v.seen (4 * start.buckets + n) ≡ 0
  -- a touched key is on a walk at its entry
  pub touched : (x e : ℕ) → 0 < pairs_at x e v.touched → (0 < x) × (e < entries_in start) × IsOnWalk (shown start ws) e × (slice_index ws e ≡ x)
  -- what it placed it touched
  pub placed : (x : ℕ) → 0 < times x v.placed → (e : ℕ) × (0 < pairs_at x e v.touched)
  -- an unlinked node has the word that the seat stored there
  pub filled : (n x : ℕ) → 0 < pairs_at n x v.nodes → (n < start.nodes) × (slice_index ws (4 * start.buckets + n) ≡ x)
  -- it has at most as many unlinked nodes as its part, and nothing where it has no part
  pub few : length v.nodes ≤ v.part
  pub idle : v.part ≡ 0 → (v.touched ≡ []) × (v.placed ≡ []) × (v.nodes ≡ []) × (v.mark ≡ 0)
  -- its mark and the counter are at least the number of nodes
  pub marked : 0 < v.mark → (start.nodes < v.mark) × (start.nodes ≤ drawn start ws)

-- what a seat has added to the counter past the nodes at most: its part, where it has a mark
abbrev pub spent : SeatState → ℕ
spent v = cond (v.mark == 0) 0 v.part

-- how many seats have node n as an unlinked node
abbrev pub owners_in : List SeatState → ℕ → ℕ
owners_in vs n = sum_by (λ v. firsts n v.nodes) vs

-- how often the key with word x was placed
abbrev pub placings : List SeatState → ℕ → ℕ
placings vs x = sum_by (λ v. times x v.placed) vs

-- the rule of touching, over the table at the start and the number of seats
pub record TouchRuleHolds (start : Table) (seats : ℕ) (ws : List ℕ) (vs : List SeatState) : Type 0 where
  pub sound : IsSound start
  pub walks : IsWalked start ws
  pub dealt : IsDealt start ws (owners_in vs)
  pub origin : IsPlaced start ws (placings vs)
  pub each : (i : ℕ) (v : SeatState) → get_elem? vs i ≡ some v → Fits start ws v
  pub few : seats ≤ 64
  -- the parts add up to the seats
  pub parts : sum_by (λ v. v.part) vs ≡ seats
  -- the counter is at most the nodes and the parts of the seats with a mark
  pub counter : drawn start ws ≤ start.nodes + sum_by spent vs
