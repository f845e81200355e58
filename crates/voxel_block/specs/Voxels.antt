-- One voxel, and voxels from their distances and weights.
use Rattle.std.specs.Prelude.{◌≡◌, ◌≢◌, ℕ, nat_lt, ℤ, pos, negsuc, Bool, if◌then◌else◌, Option, Some, None, List, [], ◌∷◌, refl}
use Rattle.std.specs.Coded.{Coded, code_by, coded×, coded_ℕ, coded_ℤ}
use Rattle.voxel_block.specs.declared.voxel.Voxel.{Voxel}

-- a voxel is stored as its distance and its weight
abbrev pub coded_voxel : Coded Voxel
coded_voxel = code_by (ℤ × ℕ) (coded× coded_ℤ coded_ℕ) (λ v. (v.f, v.w)) (λ p. record { f = p.0; w = p.1 }) (λ _. refl)

-- a voxel that was never observed
abbrev pub new_voxel : Voxel
new_voxel = record { f = pos 32767; w = 0 }

-- the distance is not -32768, and a voxel without weight has the greatest distance
pub record IsVoxel (v : Voxel) : Type 0 where
  pub in_range : v.f ≢ negsuc 32767
  pub unobserved : v.w ≡ 0 → v.f ≡ pos 32767

-- a voxel is known where its weight is above 0
abbrev pub is_known : Voxel → Bool
is_known v = nat_lt 0 v.w

-- the value of a known voxel, its distance
abbrev pub known_value : Voxel → Option ℤ
known_value v = if is_known v then Some v.f else None

-- the voxels that have these distances and these weights, in order
abbrev pub voxels_of : List ℤ → List ℕ → List Voxel
voxels_of [] ws = []
voxels_of (f ∷ fs) [] = []
voxels_of (f ∷ fs) (w ∷ ws) = record { f = f; w = w } ∷ voxels_of fs ws
