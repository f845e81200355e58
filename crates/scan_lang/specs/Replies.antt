-- What is written for a reply.
use Rattle.std.specs.Prelude.{ℕ, ℤ, List, ◌++◌, length, codes}
use Rattle.std.specs.List.{flat_map}
use Rattle.std.specs.Fmt.{decimal, signed_decimal}
use Rattle.depth_frame.specs.DepthMaps.{DepthMap}
use Rattle.depth_frame.specs.Pgm.{pgm_text}
use Rattle.crossing_export.specs.Ply.{ply_text}
use Rattle.crossing_export.specs.declared.crossing.Crossing.{Crossing}
use Rattle.scan_lang.specs.declared.reply.FrameDone.{FrameDone}
use Rattle.scan_lang.specs.declared.reply.KnownVoxel.{KnownVoxel}
use Rattle.scan_lang.specs.declared.reply.Place.{Place}
use Rattle.scan_lang.specs.declared.reply.Place.TheVariants.{Heap, Store, Nowhere}
use Rattle.scan_lang.specs.declared.reply.Totals.{Totals}
use Rattle.scan_lang.specs.declared.reply.Reply.{Reply}
use Rattle.scan_lang.specs.declared.reply.Reply.TheVariants as replies

-- the number of the frame, the number of blocks, and the number of those that are active for it
abbrev pub frame_text : FrameDone → List ℕ
frame_text d = codes "frame " ++ decimal d.frame ++ codes " blocks " ++ decimal d.blocks ++ codes " resident " ++ decimal d.resident ++ codes "\n"

-- the greatest number of active blocks, which the frame would exceed
abbrev pub heap_text : (limit : ℕ) → List ℕ
heap_text limit = codes "frame refused heap " ++ decimal limit ++ codes "\n"

-- the number of blocks that were removed
abbrev pub collected_text : (removed : ℕ) → List ℕ
collected_text n = codes "collect " ++ decimal n ++ codes "\n"

abbrev pub picture_head : (frames : ℕ) → List ℕ
picture_head n = codes "render " ++ decimal n ++ codes "\n"

-- the number of frames, and then the file of the picture
abbrev pub picture_text : (frames : ℕ) → DepthMap → List ℕ
picture_text n picture = picture_head n ++ pgm_text picture

-- the coordinates of a voxel, its distance and its weight
abbrev pub voxel_line : KnownVoxel → List ℕ
voxel_line k = signed_decimal k.x ++ codes " " ++ signed_decimal k.y ++ codes " " ++ signed_decimal k.z ++ codes " " ++ signed_decimal k.f ++ codes " " ++ decimal k.w ++ codes "\n"

abbrev pub voxels_head : (blocks known : ℕ) → List ℕ
voxels_head b n = codes "voxels " ++ decimal b ++ codes " " ++ decimal n ++ codes "\n"

-- the numbers of blocks and of known voxels, and then a line for each of these
abbrev pub voxels_text : (blocks : ℕ) → List KnownVoxel → List ℕ
voxels_text b known = voxels_head b (length known) ++ flat_map voxel_line known

abbrev pub points_head : (count : ℕ) → List ℕ
points_head n = codes "points " ++ decimal n ++ codes "\n"

-- the number of points, and then their file
abbrev pub points_text : List Crossing → List ℕ
points_text list = points_head (length list) ++ ply_text list

-- the numbers of blocks and of known voxels
abbrev pub counts_text : (blocks known : ℕ) → List ℕ
counts_text b n = codes "blocks " ++ decimal b ++ codes " known " ++ decimal n ++ codes " "

-- the sum of their weights and that of their distances
abbrev pub sums_text : (weight : ℕ) → (distance : ℤ) → List ℕ
sums_text w d = codes "weight " ++ decimal w ++ codes " distance " ++ signed_decimal d ++ codes "\n"

-- both in one line
abbrev pub totals_text : Totals → List ℕ
totals_text t = (codes "sum " ++ counts_text t.blocks t.known) ++ sums_text t.weight t.distance

-- where a block lies
abbrev pub place_text : Place → List ℕ
place_text Heap = codes "place heap\n"
place_text Store = codes "place store\n"
place_text Nowhere = codes "place none\n"

-- the bytes of a reply
abbrev pub text_of : Reply → List ℕ
text_of (replies.Frame done) = frame_text done
text_of replies.Size = codes "frame refused size\n"
text_of replies.PoseRange = codes "frame refused pose range\n"
text_of replies.PoseRotation = codes "frame refused pose rotation\n"
text_of (replies.HeapSpent limit) = heap_text limit
text_of (replies.Collected removed) = collected_text removed
text_of (replies.Picture frames picture) = picture_text frames picture
text_of replies.NoFrame = codes "render refused no frame\n"
text_of (replies.Voxels blocks known) = voxels_text blocks known
text_of (replies.Points points) = points_text points
text_of (replies.Totals totals) = totals_text totals
text_of (replies.Place place) = place_text place
text_of replies.End = codes "end\n"
