-- What contracts see of a share and of its seats.
use Rattle.std.specs.Prelude.{◌≡◌, ℕ, ◌<◌, List, length, slice_index, cond, ◌==◌, ◌-◌, ◌^◌, Some, None}
use Rattle.std.specs.FinMap.{get}
use Rattle.atomic_table.specs.Seated.{TableId}
use Rattle.spatial_hash.specs.Table.{Table, entries_in, key_word, empty_table}
use Rattle.hash_share.specs.declared.view.View.{View}
use Rattle.hash_share.specs.declared.seat.TouchSeat.TheInside.{Inside as SeatInside}
use Rattle.hash_share.specs.declared.share.HashShare.TheInside.{Inside as ShareInside}
use Rattle.hash_share.specs.declared.touched.Touched.{Touched}
use Rattle.hash_share.specs.declared.touched.Touched.TheVariants.{New, Old, Spent}
use Rattle.atomic_table.specs.Table.{State, Seen}
use Rattle.voxel_block.specs.declared.key.BlockKey.{BlockKey}
use Rattle.voxel_block.specs.Words.{word_of, key_of}
use Rattle.spatial_hash.specs.Contents.{contents}
use Rattle.spatial_hash.specs.Sound.{IsSound}
use Rattle.spatial_hash.specs.Walk.{entry_of}
use Rattle.fusion_core.specs.TouchWords.{shown}
use Rattle.hash_share.specs.Rule.{Touches}
use Rattle.hash_share.specs.Steps.{HasPair}
use Rattle.hash_share.specs.Touching.{IsTied}

-- a share: its words, the shared table, and the number of its seats
pub record Share : Type 0 where
  pub words : TableId
  pub start : Table
  pub seats : ℕ

-- a seat: whose words it steps on, its number there, and what it knows
pub record Toucher : Type 0 where
  pub words : TableId
  pub id : ℕ
  pub knows : View

-- the seat is one of the share's
abbrev pub Belongs : Toucher → Share → Type 0
Belongs t s = (t.words ≡ s.words) × (t.knows.start ≡ s.start)

abbrev pub toucher_of : SeatInside → Toucher
toucher_of t = record { words = t.hand.seat.table_id; id = t.hand.seat.id; knows = t.hand.seat.me.0 }

pub record IsTouchSeat (t : SeatInside) : Type 0 where
  pub part : t.part ≡ t.hand.seat.me.0.part
  pub tied : IsTied t.hand.seat.me.0.start t.hand.seat.me t.hand.spares t.hand.marked

-- the cell of an entry of the shared table, none where it is free
abbrev pub cell_in : Table → ℕ → ℕ
cell_in t e = cond (key_word t e == 0) (2 ^ 32 - 1) (slice_index t.cells e)

-- these are the cells of the shared table's entries
pub record HasCells (t : Table) (cells : List ℕ) : Type 0 where
  pub long : length cells ≡ entries_in t
  pub each : (e : ℕ) → e < entries_in t → slice_index cells e ≡ cell_in t e

abbrev pub share_of : ShareInside → Share
share_of s = record { words = s.walks.table.shared.table_id; start = s.walks.table.shared.key.start.value; seats = s.walks.table.shared.key.seats }

pub record IsHashShare (s : ShareInside) : Type 0 where
  pub sound : IsSound s.walks.table.shared.key.start.value
  pub refill : s.refill ≡ empty_table s.walks.table.shared.key.start.value.buckets s.walks.table.shared.key.start.value.nodes
  pub cells : HasCells s.walks.table.shared.key.start.value s.cells.items

-- a touched key that the shared table lacks has no cell
pub record IsNewKey (start : Table) (v : View) (k : BlockKey) (c : ℕ) : Type 0 where
  pub cell : c ≡ 2 ^ 32 - 1
  pub lacked : get (contents start) k ≡ None
  pub named : key_of (word_of k) ≡ Some k
  pub entry : ℕ
  pub touched : HasPair (word_of k) entry v

-- in any state of the words in which the seat knows this, the walk of the key's bucket finds the key at the entry.
-- While the seat is there, each state of the words is one
abbrev pub IsFindable : Share → Toucher → BlockKey → ℕ → Type 0
IsFindable s t k e = (now : State ℕ View) → Seen (Touches s.start s.seats) t.id t.knows now → entry_of (shown s.start now.words) k ≡ Some e

-- the same for the entry that a touch answered
abbrev pub FindsIt : Share → Toucher → BlockKey → Touched → Type 0
FindsIt s t k (New e) = IsFindable s t k e
FindsIt s t k (Old e) = IsFindable s t k e
FindsIt s t k (Spent d) = Unit {0}
