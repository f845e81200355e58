-- What the code of a picture rests on.
use Rattle.std.specs.Prelude.{◌≡◌, ℕ, ℤ, pos, ◌≤ℤ◌, Some, option_map}
use Rattle.std.specs.FinMap.{get}
use Rattle.streamer.specs.Places.{Places, heap_blocks}
use Rattle.ray_ranges.specs.Cubes.{IsEnd}
use Rattle.ray_ranges.specs.Tables.{Table, RangesHave}
use Rattle.raycaster.specs.declared.last_block.LastBlock.{LastBlock}
use Rattle.raycaster.specs.declared.view.View.{View}
use Rattle.raycaster.specs.Walk.{Scene, point_value, scene_of}

-- a block that was looked up is what the heap has at its key
pub record IsLookedUp (p : Places) (l : LastBlock) : Type 0 where
  pub is : option_map (λ b. b.now) l.block ≡ get (heap_blocks p) l.key

-- the scene that a view shows
abbrev pub scene_of_view : View → Scene
scene_of_view w = scene_of w.walks.fields w.walks.pose (heap_blocks w.rest.now)

-- the ranges are for the scene's camera, and have each point at which a hit may end and where the known value is at most 0
pub record HaveLow (s : Scene) (r : Table) : Type 0 where
  pub camera : r.camera ≡ s.camera
  pub has : (u v j : ℕ) (f : ℤ) → IsEnd s.camera u v j → point_value s u v j ≡ Some f → f ≤ℤ pos 0 → RangesHave r u v j
