-- A block is empty by the least size of its known voxels' distances.
use Rattle.std.proofs.Common.{◌≡◌, ℕ, Bool, true, false, List, [], ◌∷◌, cond, refl, sym, ap, ◌∙◌, arith}
use Rattle.std.specs.Prelude.{ℤ, pos, int_lt, int_le, negsuc, ◌≤ℤ◌, min, unsigned_abs, ◌&&◌, ◌||◌, not}
use Rattle.std.specs.List.{filter, fold, list_any}
use Rattle.std.proofs.Math.Bool.{or-false, or_assoc}
use Rattle.std.proofs.lemmas.Int.{ints}
use Rattle.voxel_block.specs.declared.voxel.Voxel.{Voxel}
use Rattle.voxel_block.specs.Voxels.{is_known}
use Rattle.voxel_block.specs.declared.summary.Summary.{Summary}
use Rattle.voxel_block.specs.Summaries.{least_size, summary_of}
use Rattle.collector.specs.Empty.{is_empty_block}

-- the lesser of two numbers is below a third one where one of them is
min_below : (a b : ℕ) (e : ℤ) → int_lt (pos (min a b)) e ≡ (int_lt (pos a) e || int_lt (pos b) e)
min_below a b (negsuc n) = refl
min_below a b (pos n) = grind arith

-- whether the least size is below e, where `a` is one of those compared
abbrev BelowFrom : (e : ℤ) → List Voxel → (a : ℕ) → Type 0
BelowFrom e voxels a =
    int_lt (pos (fold (λ least v. min least (unsigned_abs v.f)) a (filter is_known voxels))) e ≡ (int_lt (pos a) e || list_any (λ v. is_known v && int_lt (pos (unsigned_abs v.f)) e) voxels)

below_from : (e : ℤ) (voxels : List Voxel) (a : ℕ) → BelowFrom e voxels a
below_from e [] a = sym (or-false (int_lt (pos a) e))
below_from e (v ∷ voxels) a = by (is_known v) (below_from e voxels)
  where
    rest : Bool
    rest = list_any (λ v. is_known v && int_lt (pos (unsigned_abs v.f)) e) voxels

    by : (b : Bool) → ((c : ℕ) → BelowFrom e voxels c)
        → int_lt (pos (fold (λ least v. min least (unsigned_abs v.f)) a (cond b (v ∷ filter is_known voxels) (filter is_known voxels)))) e ≡ (int_lt (pos a) e || ((b && int_lt (pos (unsigned_abs v.f)) e) || rest))
    by false from = from a
    by true from = from (min a (unsigned_abs v.f)) ∙ ap (λ b. b || rest) (min_below a (unsigned_abs v.f) e) ∙ or_assoc (int_lt (pos a) e) (int_lt (pos (unsigned_abs v.f)) e) rest

-- no bound is above the greatest distance
never_below : (e : ℤ) → e ≤ℤ pos 32767 → int_lt (pos 32767) e ≡ false
never_below e high = grind (arith, ints, high)

at_least : (e z : ℤ) → int_le e z ≡ not (int_lt z e)
at_least e z = grind (arith, ints)

-- a block is empty where its least size is at least e
pub empty_by_least : (e : ℤ) (s : Summary) (voxels : List Voxel) → e ≤ℤ pos 32767 → s ≡ summary_of voxels → int_le e (pos s.least) ≡ is_empty_block e voxels
empty_by_least e s voxels high is =
    let none : int_lt (pos 32767) e ≡ false = never_below e high in
    ap (λ (t : Summary). int_le e (pos t.least)) is ∙ at_least e (pos (least_size (filter is_known voxels)))
    ∙ ap not (below_from e voxels 32767 ∙ ap (λ b. b || list_any (λ v. is_known v && int_lt (pos (unsigned_abs v.f)) e) voxels) none)
