-- What is proved of every frame.
use Rattle.std.specs.Prelude.{IsTrue, Contains, ◌↔◌}
use Rattle.std.specs.List.{range_with_len, flat_map}
use Rattle.voxel_block.specs.declared.key.BlockKey.{BlockKey}
use Rattle.camera.specs.Cameras.{is_active}
use Rattle.camera.specs.Grid.{is_key}
use Rattle.camera.specs.Visibility.{IsInReach, IsNearBlock}
use Rattle.depth_view.specs.Views.{View, IsView}
use Rattle.band_walk.specs.Bands.{IsInBand, band, row_keys}

-- each block of the band is active, its coordinates are from -18876 to 18875 and so fit 16 bits, and it begins within 2^30 of the origin on each axis
abbrev pub BandIsActive : Type 0
BandIsActive = (w : View) (b : BlockKey) → IsView w → IsInBand w b → IsTrue (is_active w.camera w.pose b) × IsTrue (is_key b) × IsNearBlock b × IsInReach w.camera.voxel b

-- the list of the band has the blocks of the band and no other
abbrev pub BandIsASet : Type 0
BandIsASet = (w : View) (b : BlockKey) → Contains (band w) b ↔ IsInBand w b

-- and so have the keys of all rows, without repeats
abbrev pub RowsAreTheBand : Type 0
RowsAreTheBand = (w : View) (b : BlockKey) → Contains (flat_map (row_keys w) (range_with_len 0 w.depths.height)) b ↔ IsInBand w b
