-- What remains of the blocks of a store, while they are listed one by one.
use Rattle.std.specs.Prelude.{ℕ, List, Option}
use Rattle.std.specs.Borrow.{Bor}
use Rattle.std.specs.declared.slice.Iter.{Iter}
use Rattle.std.specs.Slice.Iter.{iter_rest}
use Rattle.voxel_block.specs.declared.key.BlockKey.{BlockKey}
use Rattle.chunk_store.specs.Rows.{Held, held_in}

-- a contract sees `Blocks` as the list of the remaining blocks
abbrev pub remaining_blocks : List Held → List Held
remaining_blocks blocks = blocks

-- the key and the packed bytes that an item lends
abbrev pub keyed_bytes : BlockKey × Bor (List ℕ) → Held
keyed_bytes p = (p.0, p.1.now)

-- what the remaining places of a row hold
abbrev pub remaining_in : Iter (Option Held) → List Held
remaining_in places = held_in (iter_rest places)
