-- Voxels that are kept as two lists, of distances and of weights.
use Rattle.std.proofs.Common.{◌≡◌, ℕ, zero, suc, ◌<◌, ℤ, List, [], ◌∷◌, length, set, get_or, refl, ap, subst, sym, ◌∙◌, arith}
use Rattle.std.specs.Prelude.{Some, All, slice_get, replicate, pos}
use Rattle.std.proofs.lemmas.Option.{get_or_from_slice_get}
use Rattle.std.proofs.lemmas.List.Elements.{All-replicate, All-set}
use Rattle.voxel_block.specs.declared.voxel.Voxel.{Voxel}
use Rattle.voxel_block.specs.Voxels.{IsVoxel, voxels_of, new_voxel}

pub length-voxels_of : (fs : List ℤ) (ws : List ℕ) → length fs ≡ length ws → length (voxels_of fs ws) ≡ length fs
length-voxels_of [] ws e = refl
length-voxels_of (f ∷ fs) [] e = absurd (omega arith)
length-voxels_of (f ∷ fs) (w ∷ ws) e = ap suc (length-voxels_of fs ws (omega arith))

pub slice_get-voxels_of : (fs : List ℤ) (ws : List ℕ) (i : ℕ) (f : ℤ) (w : ℕ) → length fs ≡ length ws → i < length fs
    → slice_get (voxels_of fs ws) i ≡ Some (record { f = get_or fs i f; w = get_or ws i w })
slice_get-voxels_of [] ws i f w e below = absurd (omega arith)
slice_get-voxels_of (g ∷ fs) [] i f w e below = absurd (omega arith)
slice_get-voxels_of (g ∷ fs) (v ∷ ws) zero f w e below = refl
slice_get-voxels_of (g ∷ fs) (v ∷ ws) (suc i) f w e below = slice_get-voxels_of fs ws i f w (omega arith) (omega arith)

pub voxels_of-set : (fs : List ℤ) (ws : List ℕ) (i : ℕ) (f : ℤ) (v : Voxel) → length fs ≡ length ws → f ≡ v.f
    → voxels_of (set fs i f) (set ws i v.w) ≡ set (voxels_of fs ws) i v
voxels_of-set [] ws i f v e same = refl
voxels_of-set (g ∷ fs) [] i f v e same = absurd (omega arith)
voxels_of-set (g ∷ fs) (u ∷ ws) zero f v e same = ap (λ (x : ℤ). record { f = x; w = v.w } ∷ voxels_of fs ws) same
voxels_of-set (g ∷ fs) (u ∷ ws) (suc i) f v e same = ap (λ vs. record { f = g; w = u } ∷ vs) (voxels_of-set fs ws i f v (omega arith) same)

pub voxels_of-replicate : (n : ℕ) (v : Voxel) → voxels_of (replicate n v.f) (replicate n v.w) ≡ replicate n v
voxels_of-replicate zero v = refl
voxels_of-replicate (suc n) v = ap (λ vs. v ∷ vs) (voxels_of-replicate n v)

pub read_is_voxel : (vs : List Voxel) (i : ℕ) (v : Voxel) → All IsVoxel vs → i < length vs → slice_get vs i ≡ Some v → IsVoxel v
read_is_voxel vs i v all below is = let P : Voxel → Type 0 = IsVoxel in subst P (get_or_from_slice_get vs i v v is) (all i v below)

pub new_voxel_is_voxel : IsVoxel new_voxel
new_voxel_is_voxel = record { in_range = λ e. absurd (cc); unobserved = λ _. refl }

pub all_new : (n : ℕ) → All IsVoxel (replicate n new_voxel)
all_new n = All-replicate IsVoxel n new_voxel new_voxel_is_voxel

-- lists that are filled with the parts of a new voxel
pub voxels_of-filled : (n : ℕ) (fs : List ℤ) (ws : List ℕ) → fs ≡ replicate n (pos 32767) → ws ≡ replicate n 0 → voxels_of fs ws ≡ replicate n new_voxel
voxels_of-filled n fs ws p q = rw (p, q) (voxels_of-replicate n new_voxel)

pub all_new_filled : (n : ℕ) (fs : List ℤ) (ws : List ℕ) → fs ≡ replicate n (pos 32767) → ws ≡ replicate n 0 → All IsVoxel (voxels_of fs ws)
all_new_filled n fs ws p q = let P : List Voxel → Type 0 = All IsVoxel in subst P (sym (voxels_of-filled n fs ws p q)) (all_new n)

-- lists in which one voxel was put
pub all_set : (fs : List ℤ) (ws : List ℕ) (i : ℕ) (f : ℤ) (v : Voxel) → length fs ≡ length ws → f ≡ v.f → IsVoxel v → All IsVoxel (voxels_of fs ws)
    → All IsVoxel (voxels_of (set fs i f) (set ws i v.w))
all_set fs ws i f v e same voxel all = let P : List Voxel → Type 0 = All IsVoxel in subst P (sym (voxels_of-set fs ws i f v e same)) (All-set IsVoxel (voxels_of fs ws) i v voxel all)

-- the voxel that is read from both lists
pub voxel_read : (fs : List ℤ) (ws : List ℕ) (vs : List Voxel) (i : ℕ) (f : ℤ) (v : Voxel) → length fs ≡ length ws → i < length fs → v.f ≡ f → f ≡ get_or fs i f → v.w ≡ get_or ws i v.w
    → voxels_of fs ws ≡ vs → slice_get vs i ≡ Some v
voxel_read fs ws vs i f v e below is_f p q is =
    let there = slice_get-voxels_of fs ws i f v.w e below in
    let x : get_or fs i f ≡ v.f = sym p ∙ sym is_f in
    let same : record { f = get_or fs i f; w = get_or ws i v.w } ≡ v = λ k. record { f = x k; w = sym q k } in
    sym (ap (λ us. slice_get us i) is) ∙ there ∙ ap Some same
