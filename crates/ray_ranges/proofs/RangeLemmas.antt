-- Lists of ranges, and what widening them keeps.
use Rattle.std.proofs.Common.{◌≡◌, ℕ, ◌+◌, ◌-◌, ◌*◌, ◌/◌, ◌<◌, ◌≤◌, min, max, List, length, take, drop, replicate, Bool, true, false, nat_eq, slice_set, ◌≢◌, refl, ap, subst, sym, ◌∙◌, arith}
use Rattle.std.proofs.lemmas.List.{get_or-set_same, get_or-set_other, length-set, get_or-take, get_or-drop, length-take, length-replicate, get_or-replicate}
use Rattle.std.proofs.lemmas.List.{get_or_past}
use Rattle.std.specs.Prelude.{pos, slice_range}
use Rattle.fixed_geom.specs.Poses.{Pose}
use Rattle.camera.specs.declared.camera.CameraFields.{CameraFields}
use Rattle.ray_ranges.specs.declared.boxes.PixelBox.{PixelBox}
use Rattle.ray_ranges.specs.declared.tile_box.TileBox.{TileBox}
use Rattle.ray_ranges.specs.Boxes.{IsInBox}
use Rattle.ray_ranges.specs.declared.point_range.PointRange.{PointRange}
use Rattle.ray_ranges.specs.declared.shape.Shape.{Shape}
use Rattle.ray_ranges.specs.Tiles.{no_points, HasPoint, range_at, TileHas, AreInSlabs}
use Rattle.ray_ranges.specs.Tables.{AreRanges, HasPoints, IsInSlab, IsTable, IsWidened, RangesHave, Table, joined, tile_at, tile_number}
use Rattle.ray_ranges.specs.TileBoxes.{HasTiles, IsInTiles, IsSmall, tiles_of}
use Rattle.ray_ranges.proofs.TileLemmas.{in_tiles}
use Rattle.ray_ranges.proofs.SlabLemmas.{by_lt, same_slab, slab_below, slabs_end}

-- ---- one range

-- a range that is widened keeps its points
pub joined_keeps : (r : PointRange) (a b j : ℕ) → HasPoint r j → HasPoint (joined r a b) j
joined_keeps r a b j h = record { first_low = low r.first a j h.first_low; last_high = high r.last b j h.last_high }
  where
    low : (f a j : ℕ) → f ≤ j → min f a ≤ j
    low f a j h = omega (arith)

    high : (l b j : ℕ) → j ≤ l → j ≤ max l b
    high l b j h = omega (arith)

-- and has the new ones
pub joined_has : (r : PointRange) (a b j : ℕ) → a ≤ j → j ≤ b → HasPoint (joined r a b) j
joined_has r a b j h i = record { first_low = low r.first a j h; last_high = high r.last b j i }
  where
    low : (f a j : ℕ) → a ≤ j → min f a ≤ j
    low f a j h = omega (arith)

    high : (l b j : ℕ) → j ≤ b → j ≤ max l b
    high l b j h = omega (arith)

joined_stays : (n w : ℕ) (r : PointRange) (a b : ℕ) → n * w ≤ a → b < n * (w + 1) → IsInSlab n w r → IsInSlab n w (joined r a b)
joined_stays n w r a b h i at = record { first = low (n * w) r.first a at.first h; last = high (n * (w + 1)) r.last b at.last i }
  where
    low : (m f a : ℕ) → m ≤ f → m ≤ a → m ≤ min f a
    low m f a h i = omega (arith)

    high : (m l b : ℕ) → l < m → b < m → max l b < m
    high m l b h i = omega (arith)

-- ---- widening

pub widened_same : (s : Shape) (list : List PointRange) → IsWidened s list list
widened_same s list = record { same = refl; kept = λ i j h. h; stay = λ h. h }

pub widened_more : (s : Shape) (old mid new : List PointRange) → IsWidened s old mid → IsWidened s mid new → IsWidened s old new
widened_more s old mid new a b = record {
  same = b.same ∙ a.same;
  kept = λ i j h. b.kept i j (a.kept i j h);
  stay = λ h. b.stay (a.stay h);
}

pub widened_has : (s : Shape) (old new : List PointRange) (t a b : ℕ) → IsWidened s old new → HasPoints s old t a b → HasPoints s new t a b
widened_has s old new t a b w h = λ j p q. w.kept (t * s.slabs + j / s.slab) j (h j p q)

-- one range that is widened by points of its slab
pub set_widened : (s : Shape) (list : List PointRange) (t w a b : ℕ) → w < s.slabs → t * s.slabs + w < length list → s.slab * w ≤ a → b < s.slab * (w + 1)
    → IsWidened s list (slice_set list (t * s.slabs + w) (joined (range_at list (t * s.slabs + w)) a b))
set_widened s list t w a b low inside from to = record {
  same = length-set list i r;
  kept = λ k j h. kept k j h (nat_eq k i) refl;
  stay = λ h t' w' l n. stay h t' w' l n (nat_eq (t' * s.slabs + w') i) refl;
}
  where
    i : ℕ
    i = t * s.slabs + w

    r : PointRange
    r = joined (range_at list i) a b

    new : List PointRange
    new = slice_set list i r

    at_i : range_at new i ≡ r
    at_i = get_or-set_same list i r no_points inside

    kept : (k j : ℕ) → HasPoint (range_at list k) j → (q : Bool) → nat_eq k i ≡ q → HasPoint (range_at new k) j
    kept k j h true e =
        let same : k ≡ i = grind (arith, e) in
        let old : HasPoint (range_at list i) j = subst (λ (m : ℕ). HasPoint (range_at list m) j) same h in
        subst (λ (m : ℕ). HasPoint (range_at new m) j) (sym same) (subst (λ (p : PointRange). HasPoint p j) (sym at_i) (joined_keeps (range_at list i) a b j old))
    kept k j h false e =
        let other : k ≢ i = grind (arith, e) in
        subst (λ (p : PointRange). HasPoint p j) (sym (get_or-set_other list i k r no_points other)) h

    stay : AreRanges s list → (t' w' : ℕ) → w' < s.slabs → t' * s.slabs + w' < length new → (q : Bool) → nat_eq (t' * s.slabs + w') i ≡ q → IsInSlab s.slab w' (range_at new (t' * s.slabs + w'))
    stay h t' w' l n true e =
        let same : t' * s.slabs + w' ≡ i = grind (arith, e) in
        let slab : w ≡ w' = same_slab t w t' w' s.slabs low l (sym same) in
        let own : IsInSlab s.slab w r = joined_stays s.slab w (range_at list i) a b from to (h t w low inside) in
        subst (λ (m : ℕ). IsInSlab s.slab w' (range_at new m)) (sym same) (subst (λ (p : PointRange). IsInSlab s.slab w' p) (sym at_i) (subst (λ (m : ℕ). IsInSlab s.slab m r) slab own))
    stay h t' w' l n false e =
        let other : t' * s.slabs + w' ≢ i = grind (arith, e) in
        subst (λ (p : PointRange). IsInSlab s.slab w' p) (sym (get_or-set_other list i (t' * s.slabs + w') r no_points other)) (h t' w' l (subst (λ (m : ℕ). t' * s.slabs + w' < m) (length-set list i r) n))

-- the same, by an index that is known
pub slab_widened : (s : Shape) (list new : List PointRange) (i t w a b : ℕ) → i ≡ t * s.slabs + w → w < s.slabs → i < length list → s.slab * w ≤ a → b < s.slab * (w + 1) → new ≡ slice_set list i (joined (range_at list i) a b) → IsWidened s list new
slab_widened s list new i t w a b e low inside from to is =
    subst (IsWidened s list) (sym (is ∙ ap (λ (k : ℕ). slice_set list k (joined (range_at list k) a b)) e)) (set_widened s list t w a b low (subst (λ (k : ℕ). k < length list) e inside) from to)

pub set_has : (list : List PointRange) (i a b j : ℕ) → i < length list → a ≤ j → j ≤ b → HasPoint (range_at (slice_set list i (joined (range_at list i) a b)) i) j
set_has list i a b j inside h k = subst (λ (p : PointRange). HasPoint p j) (sym (get_or-set_same list i (joined (range_at list i) a b) no_points inside)) (joined_has (range_at list i) a b j h k)

-- ---- loops

-- a loop that widens has widened, and what Q says holds for each number from a on that is below n
pub record IsDone (s : Shape) (old new : List PointRange) (Q : List PointRange → ℕ → Type 0) (a n : ℕ) : Type 0 where
  pub widened : IsWidened s old new
  pub each : (i : ℕ) → a ≤ i → i < n → Q new i

pub none_done : (s : Shape) (old : List PointRange) (Q : List PointRange → ℕ → Type 0) (a : ℕ) → IsDone s old old Q a a
none_done s old Q a = record { widened = widened_same s old; each = λ i h k. absurd (omega (arith)) }

pub one_done : (s : Shape) (old mid new : List PointRange) (Q : List PointRange → ℕ → Type 0) (a n : ℕ) → ((x y : List PointRange) (i : ℕ) → IsWidened s x y → Q x i → Q y i)
    → IsDone s old mid Q a n → IsWidened s mid new → Q new n → IsDone s old new Q a (n + 1)
one_done s old mid new Q a n kept before w at = record {
  widened = widened_more s old mid new before.widened w;
  each = λ i h k. by_lt i n
      (λ (l : i < n). kept mid new i w (before.each i h l))
      (λ (m : n ≤ i). let same : n ≡ i = omega (arith) in subst (λ (q : ℕ). Q new q) same at);
}

-- what the loops over slabs, columns and rows say of each number: slab w of tile t has its points from first to last; so has the tile of column c in row r; so have those of row r from column `from` to column `to`
abbrev pub SlabHas : Shape → (t first last : ℕ) → List PointRange → (w : ℕ) → Type 0
SlabHas s t first last list w = (j : ℕ) → j / s.slab ≡ w → first ≤ j → j ≤ last → HasPoint (range_at list (t * s.slabs + w)) j

abbrev pub ColumnHas : Shape → (r first last : ℕ) → List PointRange → (c : ℕ) → Type 0
ColumnHas s r first last list c = HasPoints s list (r * s.across + c) first last

abbrev pub RowHas : Shape → (from to first last : ℕ) → List PointRange → (r : ℕ) → Type 0
RowHas s from to first last list r = (c : ℕ) → from ≤ c → c ≤ to → HasPoints s list (r * s.across + c) first last

pub slab_kept : (s : Shape) (t a b : ℕ) (x y : List PointRange) (w : ℕ) → IsWidened s x y → SlabHas s t a b x w → SlabHas s t a b y w
slab_kept s t a b x y w i h = λ j e p q. i.kept (t * s.slabs + w) j (h j e p q)

pub column_kept : (s : Shape) (r a b : ℕ) (x y : List PointRange) (c : ℕ) → IsWidened s x y → ColumnHas s r a b x c → ColumnHas s r a b y c
column_kept s r a b x y c i h = widened_has s x y (r * s.across + c) a b i h

pub row_kept : (s : Shape) (from to a b : ℕ) (x y : List PointRange) (r : ℕ) → IsWidened s x y → RowHas s from to a b x r → RowHas s from to a b y r
row_kept s from to a b x y r i h = λ c p q. widened_has s x y (r * s.across + c) a b i (h c p q)

-- ---- the ranges of a tile

no_point : (j : ℕ) {P : Type 0} → HasPoint no_points j → P
no_point j {P} h = absurd (never j h.first_low h.last_high)
  where
    never : (j : ℕ) → 65535 ≤ j → j ≤ 0 → ⊥
    never j h i = omega (arith)

part_len : (a s : ℕ) → a + s - a ≡ s
part_len a s = omega (arith)

pub tile_range : (s : Shape) (list : List PointRange) (t w : ℕ) → w < s.slabs → range_at (tile_at s list t) w ≡ range_at list (t * s.slabs + w)
tile_range s list t w low = rw (part_len (t * s.slabs) s.slabs) (get_or-take s.slabs (drop (t * s.slabs) list) w no_points low ∙ get_or-drop (t * s.slabs) list w no_points)

tile_end : (s : Shape) (list : List PointRange) (t w : ℕ) → s.slabs ≤ w → range_at (tile_at s list t) w ≡ no_points
tile_end s list t w high = rw (part_len (t * s.slabs) s.slabs) (get_or_past (take s.slabs (drop (t * s.slabs) list)) w no_points (past (length (take s.slabs (drop (t * s.slabs) list))) s.slabs (length (drop (t * s.slabs) list)) w (length-take s.slabs (drop (t * s.slabs) list)) high))
  where
    past : (l s m w : ℕ) → l ≡ min s m → s ≤ w → l ≤ w
    past l s m w e h = omega (arith)

-- a tile has a point where the list has it
pub tile_has : (s : Shape) (list : List PointRange) (t j : ℕ) → j / s.slab < s.slabs → HasPoint (range_at list (t * s.slabs + j / s.slab)) j → TileHas (tile_at s list t) s.slab j
tile_has s list t j low h = subst (λ (p : PointRange). HasPoint p j) (sym (tile_range s list t (j / s.slab) low)) h

-- what a tile has it keeps
pub tile_kept : (s : Shape) (old new : List PointRange) (t j : ℕ) → IsWidened s old new → TileHas (tile_at s old t) s.slab j → TileHas (tile_at s new t) s.slab j
tile_kept s old new t j w h = by_lt (j / s.slab) s.slabs
    (λ (low : j / s.slab < s.slabs). tile_has s new t j low (w.kept (t * s.slabs + j / s.slab) j (subst (λ (p : PointRange). HasPoint p j) (tile_range s old t (j / s.slab) low) h)))
    (λ (high : s.slabs ≤ j / s.slab). no_point j (subst (λ (p : PointRange). HasPoint p j) (tile_end s old t (j / s.slab) high) h))

-- the ranges of a tile stay in their slabs
pub tile_in_slabs : (s : Shape) (list : List PointRange) (t : ℕ) → AreRanges s list → t * s.slabs + s.slabs ≤ length list → AreInSlabs (tile_at s list t) s.slab
tile_in_slabs s list t h inside = record {
  inside = λ w j at. by_lt w s.slabs
      (λ (low : w < s.slabs).
      let own = subst (λ (p : PointRange). HasPoint p j) (tile_range s list t w low) at in
      let i = h t w low (below (t * s.slabs) s.slabs w (length list) inside low) in
      (from (s.slab * w) _ j i.first own.first_low, to (s.slab * (w + 1)) _ j i.last own.last_high))
      (λ (high : s.slabs ≤ w). no_point j (subst (λ (p : PointRange). HasPoint p j) (tile_end s list t w high) at));
}
  where
    below : (p s w l : ℕ) → p + s ≤ l → w < s → p + w < l
    below p s w l h i = omega (arith)

    from : (m f j : ℕ) → m ≤ f → f ≤ j → m ≤ j
    from m f j h i = omega (arith)

    to : (m l j : ℕ) → l < m → j ≤ l → j < m
    to m l j h i = omega (arith)

-- the same of the part of the list that a tile is
pub part_in_slabs : (s : Shape) (list part : List PointRange) (t start n : ℕ) → AreRanges s list → start ≡ t * s.slabs + 0 → start + s.slabs ≤ length list → part ≡ slice_range list start (start + s.slabs) → s.slab ≡ n → AreInSlabs part n
part_in_slabs s list part t start n h e inside is same =
    let at : start ≡ t * s.slabs = e ∙ none (t * s.slabs) in
    let tile : part ≡ tile_at s list t = is ∙ ap (λ (i : ℕ). slice_range list i (i + s.slabs)) at in
    subst (AreInSlabs part) same (subst (λ (p : List PointRange). AreInSlabs p s.slab) (sym tile) (tile_in_slabs s list t h (subst (λ (i : ℕ). i + s.slabs ≤ length list) at inside)))
  where
    none : (i : ℕ) → i + 0 ≡ i
    none i = omega (arith)

-- ---- a table

-- a table whose list is widened is one
pub widened_table : (k : CameraFields) (m : Pose) (s : Shape) (old new : List PointRange) → IsTable (record { camera = k; pose = m; shape = s; list = old }) → IsWidened s old new → IsTable (record { camera = k; pose = m; shape = s; list = new })
widened_table k m s old new h w = record { shape = h.shape; size = w.same ∙ h.size; ranges = w.stay h.ranges }

-- it has what it had
pub widened_keeps : (k : CameraFields) (m : Pose) (s : Shape) (old new : List PointRange) (t : Table) (u v j : ℕ) → record { camera = k; pose = m; shape = s; list = old } ≡ t → IsWidened s old new → RangesHave t u v j → RangesHave (record { camera = k; pose = m; shape = s; list = new }) u v j
widened_keeps k m s old new t u v j is w h = tile_kept s old new (tile_number s (u / 8) (v / 8)) j w (subst (λ (q : Table). RangesHave q u v j) (sym is) h)

-- and the points of the box
pub widened_covers : (s : Shape) (new : List PointRange) (b : PixelBox) (f : TileBox) (u v j : ℕ) → f ≡ tiles_of b → IsSmall b → HasTiles s f
    → ((c r : ℕ) → f.left ≤ c → c ≤ f.right → f.top ≤ r → r ≤ f.bottom → HasPoints s new (tile_number s c r) f.first f.last) → IsInBox b (pos u) (pos v) (pos j) → TileHas (tile_at s new (tile_number s (u / 8) (v / 8))) s.slab j
widened_covers s new b f u v j is small tiles covers at =
    let i : IsInTiles f u v j = subst (λ (q : TileBox). IsInTiles q u v j) (sym is) (in_tiles b u v j small at) in
    tile_has s new (tile_number s (u / 8) (v / 8)) j (slab_below s.slab s.slabs j s.slab_least (below j f.last (s.slab * s.slabs) i.last tiles.last)) (covers (u / 8) (v / 8) i.left i.right i.top i.bottom j i.first i.last)
  where
    below : (j l m : ℕ) → j ≤ l → l < m → j < m
    below j l m h k = omega (arith)

-- ---- ranges with no point

pub no_ranges : (s : Shape) (n : ℕ) → AreRanges s (replicate n no_points)
no_ranges s n t w low inside =
    let i = t * s.slabs + w in
    let at : range_at (replicate n no_points) i ≡ no_points = get_or-replicate n i no_points no_points (subst (λ (m : ℕ). i < m) (length-replicate n no_points) inside) in
    subst (λ (p : PointRange). IsInSlab s.slab w p) (sym at) (record { first = small (s.slab * w) (slabs_end s.slab w s.slab_most (less w s.slabs low s.slabs_most)); last = some s.slab w (s.slab * (w + 1)) s.slab_least (more s.slab w) })
  where
    less : (w s : ℕ) → w < s → s ≤ 32 → w ≤ 32
    less w s h i = omega (arith)

    small : (m : ℕ) → m ≤ 16384 → m ≤ 65535
    small m h = omega (arith)

    more : (n w : ℕ) → n * (w + 1) ≡ n * w + n
    more n w = omega (arith)

    some : (n w m : ℕ) → 1 ≤ n → m ≡ n * w + n → 0 < m
    some n w m h e = omega (arith)

-- a table of such ranges has no point
pub none_have : (k : CameraFields) (m : Pose) (s : Shape) (n u v j : ℕ) → RangesHave (record { camera = k; pose = m; shape = s; list = replicate n no_points }) u v j → ⊥
none_have k m s n u v j h = by_lt (j / s.slab) s.slabs
    (λ (low : j / s.slab < s.slabs). no_point j (subst (λ (p : PointRange). HasPoint p j) (tile_range s (replicate n no_points) t (j / s.slab) low ∙ each (t * s.slabs + j / s.slab)) h))
    (λ (high : s.slabs ≤ j / s.slab). no_point j (subst (λ (p : PointRange). HasPoint p j) (tile_end s (replicate n no_points) t (j / s.slab) high) h))
  where
    t : ℕ
    t = tile_number s (u / 8) (v / 8)

    each : (i : ℕ) → range_at (replicate n no_points) i ≡ no_points
    each i = by_lt i n
        (λ (low : i < n). get_or-replicate n i no_points no_points low)
        (λ (high : n ≤ i). get_or_past (replicate n no_points) i no_points (subst (λ (l : ℕ). l ≤ i) (sym (length-replicate n no_points)) high))
