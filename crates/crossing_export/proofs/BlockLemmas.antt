-- The lists of a block's crossings, as they grow.
use Rattle.std.proofs.Common.{◌≡◌, ℕ, ◌+◌, List, [], ◌∷◌, ◌++◌, map, sym, ap, ◌∙◌, append-nil, append_assoc, zero-add}
use Rattle.std.specs.Prelude.{ℤ}
use Rattle.std.specs.FinMap.{FinMap}
use Rattle.std.specs.List.{flat_map, range_with_len}
use Rattle.std.proofs.lemmas.Grind.{flat_map-append}
use Rattle.std.proofs.lemmas.List.Folds.{flat_map-map}
use Rattle.std.proofs.lemmas.List.FromFn.{map-range_with_len_more}
use Rattle.voxel_block.specs.declared.key.BlockKey.{BlockKey}
use Rattle.voxel_block.specs.declared.voxel.Voxel.{Voxel}
use Rattle.voxel_block.specs.Keys.{key_cmp}
use Rattle.camera.specs.Grid.{voxel_coordinates}
use Rattle.crossing_export.specs.declared.crossing.Crossing.{Crossing}
use Rattle.crossing_export.specs.Crossings.{crossings_at, first_crossings}
use Rattle.crossing_export.specs.Steps.{IsGrown}

-- ---- a voxel more

lists_more : {A : Type 0} (f : ℕ → List A) (n : ℕ) → flat_map f (range_with_len 0 (n + 1)) ≡ flat_map f (range_with_len 0 n) ++ f n
lists_more f n =
    sym (flat_map-map f (λ i. i) (range_with_len 0 (n + 1))) ∙ ap (flat_map f) (map-range_with_len_more (λ i. i) 0 n n (zero-add n)) ∙ flat_map-append f (map (λ i. i) (range_with_len 0 n)) (n ∷ [])
    ∙ (λ x. flat_map-map f (λ i. i) (range_with_len 0 n) x ++ append-nil (f n) x)

module _ (m : FinMap key_cmp (List Voxel)) (s : ℤ) (b : BlockKey) where
  pub none_yet : (old : List Crossing) → old ≡ old ++ first_crossings m s b 0
  unfolding first_crossings
  none_yet old = sym (append-nil old)

  pub voxel_more : (n : ℕ) (old now new : List Crossing) → now ≡ old ++ first_crossings m s b n → new ≡ now ++ crossings_at m s (voxel_coordinates b n) → new ≡ old ++ first_crossings m s b (n + 1)
  unfolding first_crossings
  voxel_more n old now new e f =
      f ∙ ap (λ (list : List Crossing). list ++ crossings_at m s (voxel_coordinates b n)) e ∙ append_assoc old (first_crossings m s b n) (crossings_at m s (voxel_coordinates b n))
      ∙ ap (λ (list : List Crossing). old ++ list) (sym (lists_more (λ i. crossings_at m s (voxel_coordinates b i)) n))

-- the crossings on the three axes, one after the other
pub three_axes : (o o1 o2 o3 a b c : List Crossing) → o1 ≡ o ++ a → o2 ≡ o1 ++ b → o3 ≡ o2 ++ c → o3 ≡ o ++ ((a ++ b) ++ c)
three_axes o o1 o2 o3 a b c e1 e2 e3 = rw (e3, e2, e1) (simp append_assoc)

-- ---- what stays

pub grown_same : {A : Type 0} (list : List A) → IsGrown list list
grown_same list = record { more = []; is = sym (append-nil list) }

pub grown_on : {A : Type 0} (old now new : List A) → IsGrown old now → IsGrown now new → IsGrown old new
grown_on {A} old now new g h = record { more = g.more ++ h.more; is = h.is ∙ ap (λ (list : List A). list ++ h.more) g.is ∙ append_assoc old g.more h.more }
