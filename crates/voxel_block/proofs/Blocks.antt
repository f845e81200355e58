-- What a loop over the voxels of a block needs.
use Rattle.std.proofs.Common.{◌≡◌, ℕ, zero, suc, ◌+◌, ◌*◌, ◌/◌, ◌%◌, ◌<◌, List, [], ◌∷◌, ◌++◌, length, set, take, drop, map, refl, ap, sym, subst, ◌∙◌, arith}
use Rattle.std.specs.Prelude.{Some, None, All, slice_get}
use Rattle.std.specs.List.{enumerate_from}
use Rattle.std.proofs.lemmas.List.{length-replicate, length-set}
use Rattle.std.proofs.lemmas.List.Elements.{All-map}
use Rattle.std.proofs.lemmas.List.FromFn.{length-enumerate_from, get_or-enumerate_from}
use Rattle.voxel_block.specs.Voxels.{new_voxel}
use Rattle.voxel_block.specs.Blocks.{new_block, by_index, Offset, index_of, offset_of}

-- ---- new blocks

pub length-new_block : length new_block ≡ 512
length-new_block = length-replicate 512 new_voxel

-- ---- indices

pub offset_of-index_of : (x y z : ℕ) → x < 8 → y < 8 → offset_of (index_of (record { x = x; y = y; z = z })) ≡ record { x = x; y = y; z = z }
offset_of-index_of x y z p q =
    let a : (x + 8 * y + 64 * z) % 8 ≡ x = omega arith in
    let b : (x + 8 * y + 64 * z) / 8 % 8 ≡ y = omega arith in
    let c : (x + 8 * y + 64 * z) / 64 ≡ z = omega arith in
    λ k. record { x = a k; y = b k; z = c k }

-- the coordinates of an index are below 8
pub record IsInside (o : Offset) : Type 0 where
  pub x : o.x < 8
  pub y : o.y < 8
  pub z : o.z < 8

pub offset_inside : (i : ℕ) → i < 512 → IsInside (offset_of i)
offset_inside i below = record { x = omega arith; y = omega arith; z = omega arith }

-- ---- elements that are changed by a rule that knows their index

-- as `by_index`, where the first index is n
abbrev by_index_from : {X : Type 0} → (ℕ → X → X) → ℕ → List X → List X
by_index_from f n xs = map (λ p. f p.0 p.1) (enumerate_from n xs)

module _ {X : Type 0} (f g : ℕ → X → X) where
  same_from : (n : ℕ) (xs : List X) → ((i m : ℕ) (x : X) → m ≡ n + i → slice_get xs i ≡ Some x → f m x ≡ g m x) → by_index_from f n xs ≡ by_index_from g n xs
  same_from n [] h = refl
  same_from n (x ∷ xs) h =
      let first : f n x ≡ g n x = h 0 n x (omega arith) refl in
      let rest = same_from (n + 1) xs (λ i m y at is. h (suc i) m y (omega arith) is) in
      λ k. first k ∷ rest k

  -- rules that agree on the elements of a list change it alike
  pub by_index-same : (xs : List X) → ((i : ℕ) (x : X) → slice_get xs i ≡ Some x → f i x ≡ g i x) → by_index f xs ≡ by_index g xs
  by_index-same xs h = same_from 0 xs (λ i m x at is. let e : m ≡ i = omega arith in subst (λ k. f k x ≡ g k x) (sym e) (h i x is))

module _ {X : Type 0} (f : ℕ → X → X) where
  unchanged_from : (n : ℕ) (xs : List X) → by_index_from (λ _ x. x) n xs ≡ xs
  unchanged_from n [] = refl
  unchanged_from n (x ∷ xs) = ap (λ ys. x ∷ ys) (unchanged_from (n + 1) xs)

  -- a rule that leaves each element of a list leaves the list
  pub by_index-unchanged : (xs : List X) → ((i : ℕ) (x : X) → slice_get xs i ≡ Some x → f i x ≡ x) → by_index f xs ≡ xs
  by_index-unchanged xs h = by_index-same f (λ _ x. x) xs h ∙ unchanged_from 0 xs

  -- what the rule keeps true of each element
  pub All-by_index : (P : X → Type 0) → ((i : ℕ) (x : X) → P x → P (f i x)) → (xs : List X) → All P xs → All P (by_index f xs)
  All-by_index P keeps xs all = All-map P (λ p. f p.0 p.1) (enumerate_from 0 xs) (λ k d below.
      let within : k < length xs = omega (arith, length-enumerate_from 0 xs) in
      let Q : ℕ × X → Type 0 = λ p. P (f p.0 p.1) in
      subst Q (sym (get_or-enumerate_from 0 xs k d within)) (keeps (0 + k) _ (all k d.1 within)))

-- ---- a loop that changes each element by its index

module _ {X : Type 0} (f : ℕ → X → X) where
  there : (n i : ℕ) (xs : List X) → slice_get (by_index_from f n (take i xs) ++ drop i xs) i ≡ slice_get xs i
  there n zero xs = refl
  there n (suc i) [] = refl
  there n (suc i) (x ∷ xs) = there (n + 1) i xs

  one_more : (n i m : ℕ) (xs : List X) (x : X) → slice_get xs i ≡ Some x → m ≡ n + i → set (by_index_from f n (take i xs) ++ drop i xs) i (f m x) ≡ by_index_from f n (take (suc i) xs) ++ drop (suc i) xs
  one_more n i m [] x is at = absurd (let e : ◌≡◌ None (Some x) = is in cc)
  one_more n zero m (y ∷ xs) x is at = let same : x ≡ y = cc in let e : m ≡ n = omega arith in λ k. f (e k) (same k) ∷ xs
  one_more n (suc i) m (y ∷ xs) x is at = ap (λ zs. f n y ∷ zs) (one_more (n + 1) i m xs x is (omega arith))

  all_there : (n : ℕ) (xs : List X) → by_index_from f n (take (length xs) xs) ++ drop (length xs) xs ≡ by_index_from f n xs
  all_there n [] = refl
  all_there n (x ∷ xs) = ap (λ ys. f n x ∷ ys) (all_there (n + 1) xs)

  length_there : (n i : ℕ) (xs : List X) → length (by_index_from f n (take i xs) ++ drop i xs) ≡ length xs
  length_there n zero xs = refl
  length_there n (suc i) [] = refl
  length_there n (suc i) (x ∷ xs) = ap suc (length_there (n + 1) i xs)

  -- ys is xs with the first i of its elements changed; a step tells that there are `count`
  pub record IsChangedTo (count : ℕ) (xs ys : List X) (i : ℕ) : Type 0 where
    pub is : ys ≡ by_index f (take i xs) ++ drop i xs
    pub counted : 0 < i → length ys ≡ count

  pub changed_none : (count : ℕ) (xs : List X) → IsChangedTo count xs xs 0
  changed_none count xs = record { is = refl; counted = λ h. absurd (omega arith) }

  -- the element that a step reads is the one that stood there at first
  pub changed_reads : (count : ℕ) (xs ys : List X) (i : ℕ) (x : X) → IsChangedTo count xs ys i → slice_get ys i ≡ Some x → slice_get xs i ≡ Some x
  changed_reads count xs ys i x h read = sym (there 0 i xs) ∙ sym (ap (λ zs. slice_get zs i) h.is) ∙ read

  pub changed_more : (count : ℕ) (xs ys zs : List X) (i : ℕ) (x y : X) → IsChangedTo count xs ys i → slice_get ys i ≡ Some x → length ys ≡ count → y ≡ f i x → zs ≡ set ys i y
      → IsChangedTo count xs zs (i + 1)
  changed_more count xs ys zs i x y h read long value written =
      let next : suc i ≡ i + 1 = omega arith in
      let put : zs ≡ set ys i (f i x) = written ∙ ap (set ys i) value in
      record {
        is = put ∙ ap (λ us. set us i (f i x)) h.is ∙ one_more 0 i i xs x (changed_reads count xs ys i x h read) (omega arith) ∙ ap (λ n. by_index_from f 0 (take n xs) ++ drop n xs) next;
        counted = λ _. ap length put ∙ length-set ys i (f i x) ∙ long;
      }

  pub changed_all : (count : ℕ) (xs ys : List X) → 0 < count → IsChangedTo count xs ys count → ys ≡ by_index f xs
  changed_all count xs ys some h =
      let e : length xs ≡ count = sym (length_there 0 count xs) ∙ sym (ap length h.is) ∙ h.counted some in
      h.is ∙ ap (λ n. by_index_from f 0 (take n xs) ++ drop n xs) (sym e) ∙ all_there 0 xs
