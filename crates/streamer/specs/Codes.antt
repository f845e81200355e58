-- How places are stored, which Rattle asks for; no contract cites it.
use Rattle.std.specs.Prelude.{◌≡◌, ℕ, List, Option, Some, None, refl}
use Rattle.std.specs.Coded.{Coded, code_by, coded×, coded_ℕ, coded_list, coded_option}
use Rattle.chunk_store.specs.Codes.{coded_stored}
use Rattle.chunk_store.specs.Store.{Stored}
use Rattle.voxel_block.specs.declared.key.BlockKey.{BlockKey}
use Rattle.voxel_block.specs.declared.voxel.Voxel.{Voxel}
use Rattle.voxel_block.specs.Keys.{coded_key}
use Rattle.voxel_block.specs.Voxels.{coded_voxel}
use Rattle.spatial_hash.specs.Table.{Table}
use Rattle.block_heap.specs.declared.cell.Cell.{Cell}
use Rattle.block_heap.specs.declared.cell.Cell.TheVariants.{Free, Owned}
use Rattle.block_heap.specs.Cells.{Cells}
use Rattle.streamer.specs.Places.{Places}

-- a hash table is stored as its fields
abbrev coded_table : Coded Table
coded_table = code_by
    (ℕ × (ℕ × (ℕ × (List ℕ × List ℕ))))
    (coded× coded_ℕ (coded× coded_ℕ (coded× coded_ℕ (coded× (coded_list coded_ℕ) (coded_list coded_ℕ)))))
    (λ t. (t.buckets, (t.nodes, (t.linked, (t.words, t.cells)))))
    (λ p. record { buckets = p.0; nodes = p.1.0; linked = p.1.1.0; words = p.1.1.1.0; cells = p.1.1.1.1 })
    (λ _. refl)

-- a cell is stored as its key, where it is owned, and its voxels
abbrev of_cell : Cell → Option BlockKey × List Voxel
of_cell (Free b) = (None, b)
of_cell (Owned k b) = (Some k, b)

abbrev to_cell : Option BlockKey × List Voxel → Cell
to_cell (None, b) = Free b
to_cell (Some k, b) = Owned k b

abbrev back_to_cell : (c : Cell) → to_cell (of_cell c) ≡ c
back_to_cell (Free b) = refl
back_to_cell (Owned k b) = refl

abbrev coded_cell : Coded Cell
coded_cell = code_by (Option BlockKey × List Voxel) (coded× (coded_option coded_key) (coded_list coded_voxel)) of_cell to_cell back_to_cell

-- a heap is stored as its fields
abbrev coded_cells : Coded Cells
coded_cells = code_by (List Cell × List ℕ) (coded× (coded_list coded_cell) (coded_list coded_ℕ)) (λ h. (h.cells, h.free)) (λ p. record { cells = p.0; free = p.1 }) (λ _. refl)

-- places are stored as their fields
abbrev pub coded_places : Coded Places
coded_places = code_by (Table × (Cells × Stored)) (coded× coded_table (coded× coded_cells coded_stored)) (λ p. (p.table, (p.heap, p.store))) (λ p. record { table = p.0; heap = p.1.0; store = p.1.1 }) (λ _. refl)
