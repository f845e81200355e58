-- What a touch does to a seat's view.
use Rattle.std.specs.Prelude.{◌≡◌, ◌≢◌, ℕ, suc, ◌+◌, ◌*◌, ◌<◌, ◌≤◌, List, ◌∷◌, ◌++◌, [], length, map, slice_index, Bool, true, false}
use Rattle.spatial_hash.specs.Table.{Table, entries_in, key_word, link_word}
use Rattle.spatial_hash.specs.Hash.{home}
use Rattle.hash_share.specs.declared.view.View.{View}
use Rattle.hash_share.specs.declared.spot.Spot.{Spot}
use Rattle.hash_share.specs.declared.spot.Spot.TheVariants.{Placed, Seen, Full}
use Rattle.fusion_core.specs.TouchSteps.{touched_after}
use Rattle.hash_share.specs.declared.touched.Touched.{Touched}
use Rattle.hash_share.specs.declared.touched.Touched.TheVariants.{New, Old, Spent}
use Rattle.hash_share.specs.declared.hop.Hop.{Hop}
use Rattle.hash_share.specs.declared.hop.Hop.TheVariants.{Node, Linked, Out}
use Rattle.fusion_core.specs.TouchWords.{shown, counter_at, Passes, LeadsPast}
use Rattle.hash_share.specs.Steps.{Held, HasPair}
use Rattle.fusion_core.specs.TouchLaws.{IsAbsent}
use Rattle.hash_share.specs.Spares.{AllBelow}

-- what was seen stays seen
abbrev pub KeepsSeen : List ℕ → List ℕ → Type 0
KeepsSeen us xs = (w : ℕ) → 0 < slice_index us w → slice_index xs w ≡ slice_index us w

-- only more words were seen
pub record SeesMore (v w : View) : Type 0 where
  pub view : w ≡ record v { seen = w.seen; looks = w.looks }
  pub later : List (ℕ × ℕ)
  pub looks : w.looks ≡ later ++ v.looks

-- the key with word k was touched at entry e, where it was seen
pub record IsTouchedAt (k e : ℕ) (w : View) : Type 0 where
  pub seen : slice_index w.seen e ≡ k
  pub pair : HasPair k e w

-- of the key words that steps found after view v, the last one is that of entry e, which is k
pub record FoundLast (k e : ℕ) (v w : View) : Type 0 where
  pub others : List (ℕ × ℕ)
  pub looks : w.looks ≡ (e, k) ∷ (others ++ v.looks)

-- what a walk over the entries of a key's bucket did
abbrev pub IsSpot : ℕ → View → View → Spot → Type 0
IsSpot k v w (Placed e) = (w ≡ record v { seen = w.seen; looks = w.looks; touched = touched_after k e k v.touched; placed = v.placed ++ k ∷ [] }) × IsTouchedAt k e w
IsSpot k v w (Seen e) = (w ≡ record v { seen = w.seen; looks = w.looks; touched = touched_after k e k v.touched }) × IsTouchedAt k e w × FoundLast k e v w
IsSpot k v w Full = SeesMore v w × Passes (shown v.start w.seen) k (home v.start.buckets k) 4

-- its entry, where there is one, is below n
abbrev pub IsLow : ℕ → Spot → Type 0
IsLow n (Placed e) = e < n
IsLow n (Seen e) = e < n
IsLow n Full = Unit {0}

-- a seat's view and the slots, nodes and mark that its struct has beside
pub record IsTied (start : Table) (me : Held) (spares : List ℕ) (marked : Bool) : Type 0 where
  pub slots : me.1 ≡ []
  pub part : 0 < me.0.part
  pub begun : me.0.start ≡ start
  pub wide : length me.0.seen ≡ counter_at start + 1
  pub nodes : map (λ p. p.0) me.0.nodes ≡ spares
  pub low : AllBelow start.nodes spares
  pub has_mark : marked ≡ true → 0 < me.0.mark
  pub no_mark : marked ≡ false → me.0.mark ≡ 0

-- what a link led to
abbrev pub IsHop : ℕ → ℕ → View → View → Hop → Type 0
IsHop k j v w (Node n) = (w ≡ record v { seen = w.seen; nodes = w.nodes }) × (n < v.start.nodes) × (link_word (shown v.start w.seen) j ≡ suc n) × KeepsSeen v.seen w.seen
    × ((vs : List ℕ) → LeadsPast (shown v.start v.seen) k (home v.start.buckets k) vs j → length vs < v.start.nodes)
IsHop k j v w (Linked n) = (w ≡ record v { seen = w.seen; touched = touched_after k (4 * v.start.buckets + n) k v.touched; placed = v.placed ++ k ∷ []; nodes = w.nodes }) × (n < v.start.nodes) × IsTouchedAt k (4 * v.start.buckets + n) w
IsHop k j v w (Out d) = (w ≡ record v { mark = suc d; ends = suc v.ends }) × (v.start.nodes ≤ d) × IsAbsent v.start v.touched k

-- more words were seen, and nodes were drawn or filled
abbrev pub Roams : View → View → Type 0
Roams v w = (w ≡ record v { seen = w.seen; looks = w.looks; nodes = w.nodes }) × ((later : List (ℕ × ℕ)) × (w.looks ≡ later ++ v.looks))

-- what a touch of the key with word k did
abbrev pub IsTouched : ℕ → View → View → Touched → Type 0
IsTouched k v w (New e) = (w ≡ record v { seen = w.seen; looks = w.looks; touched = touched_after k e k v.touched; placed = v.placed ++ k ∷ []; nodes = w.nodes }) × (e < entries_in v.start) × IsTouchedAt k e w
IsTouched k v w (Old e) = (w ≡ record v { seen = w.seen; looks = w.looks; touched = touched_after k e k v.touched; nodes = w.nodes }) × (e < entries_in v.start) × IsTouchedAt k e w × FoundLast k e v w
IsTouched k v w (Spent d) = (w ≡ record v { seen = w.seen; looks = w.looks; nodes = w.nodes; mark = suc d; ends = suc v.ends }) × (v.start.nodes ≤ d) × Passes (shown v.start w.seen) k (home v.start.buckets k) 4 × IsAbsent v.start v.touched k

-- from link j a link led to a node with another key, the link of which is l
pub record IsOn (k j : ℕ) (v w : View) (l : ℕ) : Type 0 where
  pub node : ℕ
  pub low : node < v.start.nodes
  pub here : l ≡ v.start.buckets + node
  pub roams : Roams v w
  pub kept : KeepsSeen v.seen w.seen
  pub link : link_word (shown v.start w.seen) j ≡ suc node
  pub filled : 0 < key_word (shown v.start w.seen) (4 * v.start.buckets + node)
  pub other : key_word (shown v.start w.seen) (4 * v.start.buckets + node) ≢ k
  pub few : (vs : List ℕ) → LeadsPast (shown v.start v.seen) k (home v.start.buckets k) vs j → length vs < v.start.nodes
