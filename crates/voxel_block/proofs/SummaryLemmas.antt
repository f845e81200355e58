-- What a loop over the voxels of a block has summarized.
use Rattle.std.proofs.Common.{◌≡◌, ℕ, ◌+◌, ◌<◌, ◌≤◌, Bool, true, false, List, [], ◌∷◌, ◌++◌, take, length, cond, inl, inr, get_or, refl, sym, ap, ◌∙◌, arith}
use Rattle.std.specs.Prelude.{Some, slice_get, min, unsigned_abs}
use Rattle.std.specs.List.{count_by, filter}
use Rattle.std.proofs.lemmas.Bool.{cases_Bool, ltb-false}
use Rattle.std.proofs.lemmas.Option.{get_or_from_slice_get}
use Rattle.std.proofs.lemmas.List.Elements.{filter_more}
use Rattle.std.proofs.lemmas.List.Sums.{fold-append, count_by_more_yes, count_by_more_no}
use Rattle.std.proofs.lemmas.List.{take_all}
use mir.Val.{bool_byte}
use Rattle.std.specs.Ordering.{ord_min, nat_cmp}
use Rattle.voxel_block.specs.declared.voxel.Voxel.{Voxel}
use Rattle.voxel_block.specs.Voxels.{IsVoxel, is_known}
use Rattle.voxel_block.specs.Summaries.{least_size, summary_of}

-- the first i voxels were summarized
pub record IsSummarized (voxels : List Voxel) (i known least : ℕ) : Type 0 where
  pub counted : known ≡ count_by is_known (take i voxels)
  pub compared : least ≡ least_size (filter is_known (take i voxels))
  pub few : known ≤ i
  pub small : least ≤ 32767

pub summarized_none : (voxels : List Voxel) → IsSummarized voxels 0 0 32767
summarized_none voxels = record { counted = refl; compared = refl; few = omega arith; small = omega arith }

ord_min_is : (a b : ℕ) → ord_min nat_cmp a b ≡ min a b
ord_min_is a b = grind arith

-- the size of an unknown voxel's distance
unknown_size : (v : Voxel) → IsVoxel v → is_known v ≡ false → unsigned_abs v.f ≡ 32767
unknown_size v voxel unknown = let none : v.w ≡ 0 = omega (arith, ltb-false 0 v.w unknown) in ap unsigned_abs (voxel.unobserved none)

-- a voxel more, by what is known of it
more_known : (voxels : List Voxel) (i : ℕ) (v : Voxel) (known least : ℕ) → i < length voxels → get_or voxels i v ≡ v → is_known v ≡ true
    → IsSummarized voxels i known least → IsSummarized voxels (i + 1) (known + 1) (min least (unsigned_abs v.f))
more_known voxels i v known least below read t h =
    let one : is_known (get_or voxels i v) ≡ true = ap is_known read ∙ t in
    let kept : filter is_known (take (i + 1) voxels) ≡ filter is_known (take i voxels) ++ v ∷ [] =
    filter_more is_known voxels i v below ∙ ap (λ b. filter is_known (take i voxels) ++ cond b (get_or voxels i v ∷ []) []) one ∙ ap (λ x. filter is_known (take i voxels) ++ x ∷ []) read in
    record {
      counted = ap (λ n. n + 1) h.counted ∙ sym (count_by_more_yes is_known voxels i v below one);
      compared = ap (λ n. min n (unsigned_abs v.f)) h.compared ∙ sym (fold-append (λ n x. min n (unsigned_abs x.f)) 32767 (filter is_known (take i voxels)) (v ∷ [])) ∙ sym (ap least_size kept);
      few = omega (arith, h.few);
      small = omega (arith, h.small);
    }

more_unknown : (voxels : List Voxel) (i : ℕ) (v : Voxel) (known least : ℕ) → i < length voxels → get_or voxels i v ≡ v → IsVoxel v → is_known v ≡ false
    → IsSummarized voxels i known least → IsSummarized voxels (i + 1) known (min least (unsigned_abs v.f))
more_unknown voxels i v known least below read voxel u h =
    let none : is_known (get_or voxels i v) ≡ false = ap is_known read ∙ u in
    let kept : filter is_known (take (i + 1) voxels) ≡ filter is_known (take i voxels) ++ [] =
    filter_more is_known voxels i v below ∙ ap (λ b. filter is_known (take i voxels) ++ cond b (get_or voxels i v ∷ []) []) none in
    let same : min least (unsigned_abs v.f) ≡ least = ap (min least) (unknown_size v voxel u) ∙ omega (arith, h.small) in
    record {
      counted = h.counted ∙ sym (count_by_more_no is_known voxels i v below none);
      compared = same ∙ h.compared ∙ sym (fold-append (λ n x. min n (unsigned_abs x.f)) 32767 (filter is_known (take i voxels)) []) ∙ sym (ap least_size kept);
      few = omega (arith, h.few);
      small = omega (arith, h.small);
    }

-- a truth as a number
pub flag_at_most_1 : (n : ℕ) (b : Bool) → n ≡ bool_byte b → n ≤ 1
flag_at_most_1 n false e = omega (arith, e)
flag_at_most_1 n true e = omega (arith, e)

-- a voxel more, by what a step has of it: whether it is known, as a number, and the lesser size
pub summarized_more : (voxels : List Voxel) (i : ℕ) (v : Voxel) (known least n m k : ℕ) (b : Bool) → length voxels ≡ 512 → i < 512 → slice_get voxels i ≡ Some v → IsVoxel v
    → b ≡ is_known v → n ≡ bool_byte b → m ≡ unsigned_abs v.f → k ≡ ord_min nat_cmp least m
    → IsSummarized voxels i known least → IsSummarized voxels (i + 1) (known + n) k
summarized_more voxels i v known least n m k b long below is voxel test number size lesser h =
    let read = get_or_from_slice_get voxels i v v is in
    let within : i < length voxels = omega (arith, long) in
    let smaller : k ≡ min least (unsigned_abs v.f) = lesser ∙ ord_min_is least m ∙ ap (min least) size in
    elim (cases_Bool (is_known v)) [
      | inl t ↦ (
          let one : known + n ≡ known + 1 = ap (λ j. known + j) (number ∙ ap bool_byte (test ∙ t)) in
          rw (one, smaller) (more_known voxels i v known least within read t h))
      | inr u ↦ (
          let none : known + n ≡ known = ap (λ j. known + j) (number ∙ ap bool_byte (test ∙ u)) ∙ omega arith in
          rw (none, smaller) (more_unknown voxels i v known least within read voxel u h))
    ]

-- all voxels
pub summarized_all : (voxels : List Voxel) (i known least : ℕ) → length voxels ≡ i → IsSummarized voxels i known least → record { known = known; least = least } ≡ summary_of voxels
summarized_all voxels i known least long h =
    let whole : take i voxels ≡ voxels = take_all i voxels (omega (arith, long)) in
    let counted = h.counted ∙ ap (count_by is_known) whole in
    let compared = h.compared ∙ ap (λ vs. least_size (filter is_known vs)) whole in
    λ j. record { known = counted j; least = compared j }
