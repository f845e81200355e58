-- What the workers of a round have done.
use Rattle.std.specs.Prelude.{◌≡◌, ℕ, ◌+◌, ◌%◌, ◌<◌, ◌≤◌, ◌⊎◌, List, Option, Some, None, Contains}
use Rattle.voxel_block.specs.declared.key.BlockKey.{BlockKey}
use Rattle.voxel_block.specs.Words.{key_of, word_of}
use Rattle.depth_view.specs.Views.{View as Shown}
use Rattle.band_walk.specs.Bands.{band, row_blocks}
use Rattle.band_walk.specs.Memos.{IsNoted}
use Rattle.hash_share.specs.declared.view.View.{View}
use Rattle.hash_share.specs.declared.touched.Touched.{Touched}
use Rattle.hash_share.specs.declared.touched.Touched.TheVariants.{New, Old, Spent}
use Rattle.hash_share.specs.Seats.{Belongs, Share, Toucher}
use Rattle.hash_share.specs.Steps.{HasPair}

-- ---- what a seat touched

-- the seat touched the key
pub record HasTouched (v : View) (b : BlockKey) : Type 0 where
  pub named : key_of (word_of b) ≡ Some b
  pub entry : ℕ
  pub pair : HasPair (word_of b) entry v

-- a word is that of a key of a list
pub record IsWordIn (ks : List BlockKey) (x : ℕ) : Type 0 where
  pub key : BlockKey
  pub among : Contains ks key
  pub named : key_of x ≡ Some key

-- the seat touched keys of the list alone
abbrev pub TouchedOnly : List BlockKey → View → Type 0
TouchedOnly ks v = (x e : ℕ) → HasPair x e v → IsWordIn ks x

-- the keys that a memo has noted were touched by the seat
abbrev pub HasNoted : List ℕ → View → Type 0
HasNoted memo v = (b : BlockKey) → IsNoted memo b → HasTouched v b

-- all keys of a list were touched by the seat
abbrev pub TouchedAll : List BlockKey → View → Type 0
TouchedAll ks v = (b : BlockKey) → Contains ks b → HasTouched v b

-- the seat goes on: what it touched stays touched, and what it touched beside that is of the list
pub record Adds (ks : List BlockKey) (v w : View) : Type 0 where
  pub kept : (x e : ℕ) → HasPair x e v → HasPair x e w
  pub only : (x e : ℕ) → HasPair x e w → HasPair x e v ⊎ IsWordIn ks x

-- the number that a touch drew, where no node was left
abbrev pub drawn_by : Touched → Option ℕ
drawn_by (New e) = None
drawn_by (Old e) = None
drawn_by (Spent d) = Some d

-- whether the seat ran out of nodes, and at which number
abbrev pub IsSpentAt : (nodes : ℕ) → View → Option ℕ → Type 0
IsSpentAt nodes v spent = (d : ℕ) → spent ≡ Some d → (nodes ≤ d) × (0 < v.mark)

-- ---- what workers do

-- row v is that of one of `count` workers from `first` on, where the rows are dealt out in turn to n workers
abbrev pub IsDealt : (n first count v : ℕ) → Type 0
IsDealt n first count v = (first ≤ v % n) × (v % n < first + count)

-- of the rows before a row, those of these workers are touched
abbrev pub TouchedRows : Shown → (n first count before : ℕ) → View → Type 0
TouchedRows w n first count before v = (r : ℕ) → r < before → IsDealt n first count r → TouchedAll (row_blocks w r) v

-- what these workers leave: a seat of the share, and the number that one of them drew where no node was left
pub record HasWorked (s : Share) (w : Shown) (n first count : ℕ) (seat : Toucher) (number : Option ℕ) : Type 0 where
  pub belongs : Belongs seat s
  pub part : seat.knows.part ≡ count
  pub only : TouchedOnly (band w) seat.knows
  pub all : number ≡ None → TouchedRows w n first count w.depths.height seat.knows
  pub spent : IsSpentAt s.start.nodes seat.knows number
