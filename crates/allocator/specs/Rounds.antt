-- How a round of touching may end.
use Rattle.std.specs.Prelude.{◌≡◌, ℕ, ◌-◌, ◌^◌, ◌≤◌, ◌||◌, IsTrue, false, List, Some, None}
use Rattle.std.specs.FinMap.{FinMap, contains_key, get, len}
use Rattle.std.specs.List.{list_any}
use Rattle.voxel_block.specs.declared.key.BlockKey.{BlockKey}
use Rattle.voxel_block.specs.Keys.{key_cmp, same_key}
use Rattle.spatial_hash.specs.Contents.{contents}
use Rattle.spatial_hash.specs.Table.{KeepsSize, Table}
use Rattle.allocator.specs.declared.end.TouchEnd.{TouchEnd}
use Rattle.allocator.specs.declared.end.TouchEnd.TheVariants.{All, Spent}

-- the cells by their keys
abbrev pub Cells : Type 0
Cells = FinMap key_cmp ℕ

-- a table has the keys of another and those of a list
abbrev pub Touches : Cells → List BlockKey → Cells → Type 0
Touches h ks t = (b : BlockKey) → contains_key t b ≡ (contains_key h b || list_any (same_key b) ks)

-- the keys of a table keep their cells in another, whose other keys have none
pub record KeepsCells (h t : Cells) : Type 0 where
  pub old : (b : BlockKey) (c : ℕ) → get h b ≡ Some c → get t b ≡ Some c
  pub new : (b : BlockKey) (c : ℕ) → get h b ≡ None → get t b ≡ Some c → c ≡ 2 ^ 32 - 1

-- a list has at least n different keys that a table lacks
pub record HasNewKeys (h : Cells) (ks : List BlockKey) (n : ℕ) : Type 0 where
  pub keys : Cells
  pub many : n ≤ len keys
  pub new : (b : BlockKey) → IsTrue (contains_key keys b) → (contains_key h b ≡ false) × IsTrue (list_any (same_key b) ks)

-- how a round over a table and keys may end
abbrev pub IsRoundOf : Table → List BlockKey → (workers : ℕ) → TouchEnd → Type 0
IsRoundOf t ks n (All u) = Touches (contents t) ks (contents u) × KeepsCells (contents t) (contents u) × KeepsSize t u
IsRoundOf t ks n (Spent d) = (t.nodes ≤ d) × HasNewKeys (contents t) ks (t.nodes - t.linked - n)
