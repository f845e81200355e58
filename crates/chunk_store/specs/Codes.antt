-- How a store's contents are stored, which Rattle asks for; no contract cites it.
use Rattle.std.specs.Prelude.{ℕ, List, refl}
use Rattle.std.specs.Coded.{Coded, code_by, coded×, coded_ℕ, coded_list, coded_option}
use Rattle.std.specs.FinMap.{FinMap, code as map_code}
use Rattle.std.specs.FinSet.{FinSet, code as set_code}
use Rattle.voxel_block.specs.Keys.{coded_key, key_cmp}
use Rattle.voxel_block.specs.Chunks.{chunk_cmp, coded_chunk}
use Rattle.chunk_store.specs.Rows.{Row}
use Rattle.chunk_store.specs.Store.{Stored}

-- a row is stored as the list of its places
abbrev pub coded_row : Coded Row
coded_row = coded_list (coded_option (coded× coded_key (coded_list coded_ℕ)))

-- a store is stored as its map and its set
abbrev pub coded_stored : Coded Stored
coded_stored = code_by (FinMap key_cmp (List ℕ) × FinSet chunk_cmp) (coded× (map_code coded_key (coded_list coded_ℕ)) (set_code coded_chunk)) (λ s. (s.contents, s.opened)) (λ p. record { contents = p.0; opened = p.1 }) (λ _. refl)
