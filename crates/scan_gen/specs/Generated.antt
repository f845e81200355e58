-- The text of a generated scan.
use Rattle.std.specs.Prelude.{ℕ, ◌+◌, ◌-◌, ◌/◌, ◌%◌, nat_le, nat_lt, if◌then◌else◌, List, [], ◌∷◌, ◌++◌, codes}
use Rattle.std.specs.List.{flat_map, range_with_len}
use Rattle.scan_gen.specs.declared.ball.Ball.{Ball}
use Rattle.scan_gen.specs.declared.view.View.{View}
use Rattle.scan_gen.specs.Scene.{ball_of, view_of, sample}

-- ---- the raster

-- two bytes, the most significant first
abbrev pub two_bytes : ℕ → List ℕ
two_bytes n = n / 256 ∷ n % 256 ∷ []

-- the first columns of row v
unfoldable pub row_front : View → (v count : ℕ) → List ℕ
row_front w v count = flat_map (λ u. two_bytes (sample w u v)) (range_with_len 0 count)

-- row v
abbrev pub row_bytes : View → (v : ℕ) → List ℕ
row_bytes w v = row_front w v 640

-- the first rows
unfoldable pub raster_front : View → (count : ℕ) → List ℕ
raster_front w count = flat_map (row_bytes w) (range_with_len 0 count)

abbrev pub raster : View → List ℕ
raster w = raster_front w 480

-- ---- parts

-- the last digit of n
abbrev pub digit : ℕ → ℕ
digit n = 48 + n % 10

-- the last six digits of n
abbrev pub six_digits : ℕ → List ℕ
six_digits n = digit (n / 100000) ∷ digit (n / 10000) ∷ digit (n / 1000) ∷ digit (n / 100) ∷ digit (n / 10) ∷ digit n ∷ []

-- a frame's line: its pose has no rotation, and its translation is in metres
abbrev pub frame_line : (x z : ℕ) → List ℕ
frame_line x z = codes "frame 1 0 0 0." ++ (six_digits x ++ (codes " 0 1 0 0.000000 0 0 1 0." ++ (six_digits z ++ codes "\n")))

-- a frame: its line, and its depth map as a binary PGM (Netpbm)
unfoldable pub frame_record : View → List ℕ
frame_record w = frame_line w.x w.z ++ (codes "P5\n640 480\n65535\n" ++ raster w)

-- the line of the configuration
unfoldable pub config_line : List ℕ
config_line = codes "{\"version\":1,\"width\":640,\"height\":480,\"fx\":34406400,\"fy\":34406400,\"cx\":20938752,\"cy\":15695872,\"unit\":1000,\"near\":400000,\"far\":3000000,\"voxel\":5000,\"mu\":20000,\"max_weight\":100,\"radius\":2900000,\"centre\":1510000,\"heap_blocks\":65536,\"buckets\":16384,\"empty_f\":30000}\n"

-- the last lines
unfoldable pub last_lines : List ℕ
last_lines = codes "sum\nend\n"

-- ---- the text

-- frames first, first + 1 and so on, count of them
abbrev pub frames_from : Ball → (first count : ℕ) → List ℕ
frames_from b first count = flat_map (λ k. frame_record (view_of b k)) (range_with_len first count)

-- what follows the part before frame next: the frames from there on, and the last lines; nothing follows these
unfoldable pub later_of : Ball → (frames next : ℕ) → List ℕ
later_of b frames next = if nat_le next frames then frames_from b next (frames - next) ++ last_lines else []

-- the first part of it
abbrev pub part_of : Ball → (frames next : ℕ) → List ℕ
part_of b frames next = if nat_lt next frames then frame_record (view_of b next) else last_lines

-- the scan of a seed
unfoldable pub generated_scan : (seed frames : ℕ) → List ℕ
generated_scan seed frames = config_line ++ (frames_from (ball_of seed) 0 frames ++ last_lines)
