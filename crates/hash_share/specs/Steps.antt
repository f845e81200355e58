-- What each step tells the seat that makes it.
use Rattle.std.specs.Prelude.{◌≡◌, ◌⊎◌, ℕ, suc, ◌+◌, ◌-◌, ◌*◌, ◌<◌, ◌≤◌, ◌==◌, List, [], ◌∷◌, ◌++◌, length, replicate, slice_index, cond}
use Rattle.atomic_table.specs.Table.{Me, Step}
use Rattle.spatial_hash.specs.Table.{Table, empty_table}
use Rattle.spatial_hash.specs.Hash.{home}
use Rattle.hash_share.specs.declared.view.View.{View}
use Rattle.fusion_core.specs.TouchCounts.{pairs_at}
use Rattle.fusion_core.specs.TouchWords.{shown, link_at, LeadsPast}
use Rattle.fusion_core.specs.TouchSteps.{saw as seat_saw, found as seat_found, put as seat_put, drew as seat_drew, past as seat_past, stored as seat_stored, hung as seat_hung}
use Rattle.fusion_core.specs.TouchLaws.{IsAbsent}
use Rattle.hash_share.specs.Rule.{seat_in, with_seat}

abbrev pub Held : Type 0
Held = Me ℕ View

-- ---- views after a step: the seat after it, as the touch machine has it

-- word w was seen to be r
abbrev pub saw : ℕ → ℕ → View → View
saw w r v = with_seat v (seat_saw w r (seat_in v))

-- key word e was seen to be r, in a call for the key with word k
abbrev pub found : ℕ → ℕ → ℕ → View → View
found k e r v = record (with_seat v (seat_found k e r (seat_in v))) { looks = (e, r) ∷ v.looks }

-- the key with word k was placed at entry e
abbrev pub put : ℕ → ℕ → View → View
put k e v = with_seat v (seat_put k e (seat_in v))

-- node n was drawn
abbrev pub drew : ℕ → View → View
drew n v = with_seat v (seat_drew n (seat_in v))

-- number n past the nodes was drawn
abbrev pub past : ℕ → View → View
past n v = record (with_seat v (seat_past n (seat_in v))) { ends = suc v.ends }

-- word x was stored in the last unlinked node
abbrev pub stored : ℕ → View → View
stored x v = with_seat v (seat_stored x (seat_in v))

-- the last unlinked node n, with entry e and the key with word k, was linked at word w
abbrev pub hung : ℕ → ℕ → ℕ → ℕ → View → View
hung k w n e v = with_seat v (seat_hung k w n e (seat_in v))

-- ---- what is known of the walk of the key's bucket

-- link j leads to a node, the number of which is r - 1, and so does not stand behind as many nodes as there are
abbrev pub LeadsOn : Table → List ℕ → ℕ → ℕ → ℕ → Type 0
LeadsOn t us k w r = (r ≤ t.nodes) × ((vs : List ℕ) (j : ℕ) → w ≡ link_at t j → LeadsPast (shown t us) k (home t.buckets k) vs j → length vs < t.nodes)

-- a word that was seen before is as it was seen
abbrev pub IsKept : List ℕ → ℕ → ℕ → Type 0
IsKept us w r = 0 < slice_index us w → r ≡ slice_index us w

-- the touched list has the key with word k at entry e
abbrev pub HasPair : ℕ → ℕ → View → Type 0
HasPair k e v = 0 < pairs_at k e v.touched

-- ---- the steps

-- a load of a key word, in a call for the key with word k
abbrev pub looked : ℕ → Step ℕ → Held → ℕ → Held → Type 0
looked k st m r n = (r ≡ 0 → n ≡ m) × (0 < r → n ≡ (found k st.word r m.0, m.1)) × (4 * m.0.start.buckets ≤ st.word → 0 < r) × IsKept m.0.seen st.word r × (r ≡ k → HasPair k st.word n.0)

-- a load of a link word: a link of 0 ends the walk, which was seen whole
abbrev pub followed : ℕ → Step ℕ → Held → ℕ → Held → Type 0
followed k st m r n = (r ≡ 0 → (n ≡ m) × IsAbsent m.0.start m.0.touched k) × (0 < r → (n ≡ (saw st.word r m.0, m.1)) × LeadsOn m.0.start m.0.seen k st.word r) × IsKept m.0.seen st.word r

-- a compare and exchange of an entry from 0
abbrev pub tried : Step ℕ → Held → ℕ → Held → Type 0
tried st m r n = (r ≡ 0 → n ≡ (put st.second st.word m.0, m.1)) × (0 < r → n ≡ (found st.second st.word r m.0, m.1)) × IsKept m.0.seen st.word r × ((r ≡ 0) ⊎ (r ≡ st.second) → HasPair st.second st.word n.0)

-- a fetch and add of the counter
abbrev pub drawing : Step ℕ → Held → ℕ → Held → Type 0
drawing st m r n = (r < m.0.start.nodes → n ≡ (drew r m.0, m.1)) × (m.0.start.nodes ≤ r → n ≡ (past r m.0, m.1))

-- a store of a key in the last unlinked node
abbrev pub storing : Step ℕ → Held → ℕ → Held → Type 0
storing st m r n = n ≡ (stored r m.0, m.1)

-- a compare and exchange of a link from 0
abbrev pub hanging : ℕ → Step ℕ → Held → ℕ → Held → Type 0
hanging k st m r n =
    (r ≡ 0 → (a : ℕ) → st.second ≡ suc a → n ≡ (hung k st.word a (4 * m.0.start.buckets + a) m.0, m.1)) × (0 < r → (n ≡ (saw st.word r m.0, m.1)) × LeadsOn m.0.start m.0.seen k st.word r) × IsKept m.0.seen st.word r
    × (r ≡ 0 → (a : ℕ) → st.second ≡ suc a → HasPair k (4 * m.0.start.buckets + a) n.0)

-- a load of word 0, which tells a seat the bounds of its part
abbrev pub weighed : Step ℕ → Held → ℕ → Held → Type 0
weighed st m r n = (n ≡ m) × (m.0.part ≤ 64) × (length m.0.nodes ≤ m.0.part)

-- ---- splits and joins

-- nothing was seen, touched, placed, drawn
pub record IsFresh (v : View) : Type 0 where
  pub unseen : (w : ℕ) → slice_index v.seen w ≡ 0
  pub touched : v.touched ≡ []
  pub placed : v.placed ≡ []
  pub nodes : v.nodes ≡ []
  pub mark : v.mark ≡ 0
  pub looks : v.looks ≡ []
  pub ends : v.ends ≡ 0

abbrev pub cut_left : ℕ → View → View
cut_left k v = record v { part = v.part - k }

abbrev pub cut_right : ℕ → View → View
cut_right k v = record v { part = k }

-- two seats as one
abbrev pub both : View → View → View
both v w = record v { part = v.part + w.part; touched = v.touched ++ w.touched; placed = v.placed ++ w.placed; nodes = w.nodes ++ v.nodes; mark = cond (v.mark == 0) w.mark v.mark; ends = v.ends + w.ends; looks = w.looks ++ v.looks }

-- what is left of the one that was joined
abbrev pub gone : View
gone = record { start = empty_table 0 0; part = 0; seen = []; touched = []; placed = []; nodes = []; mark = 0; ends = 0; looks = [] }

-- ---- the start

-- what the first seat knows
abbrev pub first_view : Table → ℕ → View
first_view start seats = record { start = start; part = seats; seen = replicate (length start.words + 1) 0; touched = []; placed = []; nodes = []; mark = 0; ends = 0; looks = [] }
