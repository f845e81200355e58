-- What the rule of touching tells of a seat.
use Rattle.std.specs.Prelude.{◌≡◌, ◌≢◌, ℕ, ◌^◌, ◌<◌, ◌≤◌, ⊤, List, Some, slice_set}
use mathlib.Core.Option.{some}
use lib.ListN.{get_elem?}
use Rattle.voxel_block.specs.declared.key.BlockKey.{BlockKey}
use Rattle.voxel_block.specs.Words.{word_of, key_of}
use Rattle.spatial_hash.specs.Table.{Table, entries_in, key_word, link_word}
use Rattle.spatial_hash.specs.Walk.{entry_of}
use Rattle.fusion_core.specs.declared.touch.event.Touch.{Touch}
use Rattle.fusion_core.specs.declared.touch.event.Touch.TheVariants.{Seen, Place, Node, Fill, Link}
use Rattle.fusion_core.specs.TouchCounts.{pairs_at}
use Rattle.fusion_core.specs.TouchSeats.{SeatState}
use Rattle.fusion_core.specs.TouchWords.{shown}
use Rattle.fusion_core.specs.TouchRule.{TouchRuleHolds}
use Rattle.fusion_core.specs.TouchSteps.{IsNextLink}
use Rattle.fusion_core.specs.TouchMachine.{MayStep, words_after, seat_after}

-- the key that a step carries has a word of at most 2^48, as every key has whose coordinates have 16 bits
abbrev pub IsNamed : Touch → Type 0
IsNamed (Seen w k) = word_of k ≤ 2 ^ 48
IsNamed (Place e k) = word_of k ≤ 2 ^ 48
IsNamed Node = ⊤
IsNamed (Fill k) = word_of k ≤ 2 ^ 48
IsNamed (Link w) = ⊤

-- each step that a seat with a part may make keeps the rule
abbrev pub StepKeepsRule : Type 0
StepKeepsRule = (start : Table) (seats : ℕ) (ws : List ℕ) (vs : List SeatState) → TouchRuleHolds start seats ws vs → (i : ℕ) (v : SeatState) → get_elem? vs i ≡ some v → 0 < v.part
    → (touch : Touch) → IsNamed touch → MayStep start ws v touch → TouchRuleHolds start seats (words_after start ws v touch) (slice_set vs i (seat_after start ws v touch))

-- a key that a seat touched is found at the entry that the seat keeps for it (the premise on the key holds of all keys, whose coordinates have 16 bits)
abbrev pub TouchedIsFound : Type 0
TouchedIsFound = (start : Table) (seats : ℕ) (ws : List ℕ) (vs : List SeatState) → TouchRuleHolds start seats ws vs → (i : ℕ) (v : SeatState) → get_elem? vs i ≡ some v
    → (k : BlockKey) (e : ℕ) → key_of (word_of k) ≡ Some k → 0 < pairs_at (word_of k) e v.touched → entry_of (shown start ws) k ≡ Some e

-- neither the table nor the touched list has the key with word k
abbrev pub IsAbsent : Table → List (ℕ × ℕ) → ℕ → Type 0
IsAbsent t touched k = ((e : ℕ) → e < entries_in t → key_word t e ≢ k) × ((e : ℕ) → pairs_at k e touched ≡ 0)

-- where the next link of a seat's walk leads to no node, the seat has seen the whole walk: neither the table at the start nor its touched list has the key
abbrev pub WalkEndTells : Type 0
WalkEndTells = (start : Table) (seats : ℕ) (ws : List ℕ) (vs : List SeatState) → TouchRuleHolds start seats ws vs → (i : ℕ) (v : SeatState) → get_elem? vs i ≡ some v
    → (k j : ℕ) → 0 < k → IsNextLink start v.seen k j → link_word (shown start ws) j ≡ 0 → IsAbsent start v.touched k
