-- Each step on the words of a share is a step of the touch machine.
use Rattle.std.specs.Prelude.{◌≡◌, ℕ, suc, ◌+◌, ◌*◌, ◌%◌, ◌^◌, ◌<◌, ◌≤◌, List, [], ◌∷◌, ◌++◌, map, slice_index}
use mathlib.Core.Option.{none, some}
use lib.ListN.{get_elem?}
use Rattle.atomic_table.specs.Table.{State, step, keeps, stepped, opening, Splits, Joins}
use Rattle.voxel_block.specs.declared.key.BlockKey.{BlockKey}
use Rattle.voxel_block.specs.Words.{word_of}
use Rattle.spatial_hash.specs.Table.{Table}
use Rattle.spatial_hash.specs.Hash.{home}
use Rattle.spatial_hash.specs.Sound.{IsSound}
use Rattle.fusion_core.specs.declared.touch.event.Touch.{Touch}
use Rattle.fusion_core.specs.declared.touch.event.Touch.TheVariants as touch
use Rattle.fusion_core.specs.TouchMachine.{TouchState, IsAllowed, Steps}
use Rattle.fusion_core.specs.TouchSteps.{IsNextKey, IsNextLink, draw_of}
use Rattle.fusion_core.specs.TouchWords.{shown, counter_at, link_at, Passes}
use Rattle.hash_share.specs.declared.view.View.{View}
use Rattle.hash_share.specs.Rule.{Touches, seat_in}
use Rattle.hash_share.specs.Steps.{Held, looked, followed, tried, drawing, storing, hanging, weighed, IsFresh, first_view, cut_left, cut_right, both, gone}

-- the state of the touch machine that the words and the seats show
abbrev pub state_shown : Table → State ℕ View → TouchState
state_shown start s = record { start = start; words = s.words; seats = map seat_in s.views }

-- from s to t the machine made this step of seat i, which it allows
abbrev pub IsEvent : Table → (i : ℕ) → Touch → (s t : State ℕ View) → Type 0
IsEvent start i touch s t = IsAllowed (state_shown start s) i touch × Steps (state_shown start s) i touch (state_shown start t)

-- no event: s and t show one state
abbrev pub IsNone : Table → (s t : State ℕ View) → Type 0
IsNone start s t = state_shown start t ≡ state_shown start s

-- where the rule holds, seat i with a part has this view and these slots
pub record IsSeated (start : Table) (seats i : ℕ) (s : State ℕ View) (m : Held) : Type 0 where
  pub rule : Touches start seats s
  pub view : get_elem? s.views i ≡ some m.0
  pub part : 0 < m.0.part

-- the state after word w became x and seat i became n
abbrev pub after : State ℕ View → (w x i : ℕ) → Held → Held → State ℕ View
after s w x i m n = stepped s w x i m.1 n.0 keeps

-- a load of a key word, in a call for key b, is Seen where the word is not 0
abbrev pub LookIsSeen : Type 0
LookIsSeen = (start : Table) (seats i : ℕ) (s : State ℕ View) (m n : Held) → IsSeated start seats i s m → (slots w : ℕ) (b : BlockKey) → IsNextKey start m.0.seen (word_of b) w
    → looked (word_of b) (step slots w 0 0 none) m (slice_index s.words w) n
    → (slice_index s.words w ≡ 0 → IsNone start s (after s w (slice_index s.words w) i m n)) × (0 < slice_index s.words w → IsEvent start i (touch.Seen w b) s (after s w (slice_index s.words w) i m n))

-- a load of a link word, in a call for key b, is Seen where the word is not 0
abbrev pub FollowIsSeen : Type 0
FollowIsSeen = (start : Table) (seats i : ℕ) (s : State ℕ View) (m n : Held) → IsSeated start seats i s m → (slots w j : ℕ) (b : BlockKey) → w ≡ link_at start j → IsNextLink start m.0.seen (word_of b) j
    → followed (word_of b) (step slots w 0 0 none) m (slice_index s.words w) n
    → (slice_index s.words w ≡ 0 → IsNone start s (after s w (slice_index s.words w) i m n)) × (0 < slice_index s.words w → IsEvent start i (touch.Seen w b) s (after s w (slice_index s.words w) i m n))

-- a compare and exchange of an entry from 0 to the word of key b is Place where it is won, and else Seen
abbrev pub TryIsPlaceOrSeen : Type 0
TryIsPlaceOrSeen = (start : Table) (seats i : ℕ) (s : State ℕ View) (m n : Held) → IsSeated start seats i s m → (slots w e : ℕ) (b : BlockKey)
    → e < 4 → w ≡ 4 * home start.buckets (word_of b) + e → Passes (shown start m.0.seen) (word_of b) (home start.buckets (word_of b)) e
    → tried (step slots w 0 (word_of b) none) m (slice_index s.words w) n
    → (slice_index s.words w ≡ 0 → IsEvent start i (touch.Place w b) s (after s w (word_of b) i m n)) × (0 < slice_index s.words w → IsEvent start i (touch.Seen w b) s (after s w (slice_index s.words w) i m n))

-- a fetch and add of the counter is Node
abbrev pub DrawIsNode : Type 0
DrawIsNode = (start : Table) (seats i : ℕ) (s : State ℕ View) (m n : Held) → IsSeated start seats i s m → (slots w add : ℕ) → w ≡ counter_at start → m.0.nodes ≡ [] → add ≡ draw_of (seat_in m.0)
    → drawing (step slots w add 0 none) m (slice_index s.words w) n
    → IsEvent start i touch.Node s (after s w ((slice_index s.words w + add) % 2 ^ 64) i m n)

-- a store of the word of key b in the last unlinked node is Fill
abbrev pub StoreIsFill : Type 0
StoreIsFill = (start : Table) (seats i : ℕ) (s : State ℕ View) (m n : Held) → IsSeated start seats i s m → (slots w a x : ℕ) (more : List (ℕ × ℕ)) (b : BlockKey) → m.0.nodes ≡ (a, x) ∷ more → w ≡ 4 * start.buckets + a
    → storing (step slots w (word_of b) 0 none) m (word_of b) n
    → IsEvent start i (touch.Fill b) s (after s w (word_of b) i m n)

-- a compare and exchange of a link from 0 to the last unlinked node, which has the word of key b, is Link where it is won, and else Seen
abbrev pub HangIsLinkOrSeen : Type 0
HangIsLinkOrSeen = (start : Table) (seats i : ℕ) (s : State ℕ View) (m n : Held) → IsSeated start seats i s m → (slots w j a : ℕ) (more : List (ℕ × ℕ)) (b : BlockKey) → 0 < word_of b → m.0.nodes ≡ (a, word_of b) ∷ more
    → w ≡ link_at start j → IsNextLink start m.0.seen (word_of b) j
    → hanging (word_of b) (step slots w 0 (suc a) none) m (slice_index s.words w) n
    → (slice_index s.words w ≡ 0 → IsEvent start i (touch.Link w) s (after s w (suc a) i m n)) × (0 < slice_index s.words w → IsEvent start i (touch.Seen w b) s (after s w (slice_index s.words w) i m n))

-- the load of word 0 that tells a seat the bounds of its part is no event
abbrev pub WeighIsNone : Type 0
WeighIsNone = (start : Table) (seats i : ℕ) (s : State ℕ View) (m n : Held) → IsSeated start seats i s m → (slots : ℕ) → weighed (step slots 0 0 0 none) m (slice_index s.words 0) n → IsNone start s (after s 0 (slice_index s.words 0) i m n)

-- the rule holds of a share that is made
abbrev pub StartKeepsRule : Type 0
StartKeepsRule = (start : Table) → IsSound start → (seats : ℕ) → 0 < seats → seats ≤ 64 → Touches start seats (opening (start.words ++ start.linked ∷ []) [] (first_view start seats))

-- a split of a fresh seat changes no word, and keeps the rule
abbrev pub SplitKeepsRule : Type 0
SplitKeepsRule = (start : Table) (seats i : ℕ) (v : View) (part : ℕ) → 1 ≤ part → part < v.part → IsFresh v → Splits (Touches start seats) i v (cut_left part v) (cut_right part v)

-- a join changes no word, and keeps the rule
abbrev pub JoinKeepsRule : Type 0
JoinKeepsRule = (start : Table) (seats i other : ℕ) (v w : View) → 0 < v.part → Joins (Touches start seats) i v other w (both v w) gone
