-- One cell that is changed.
use Rattle.std.proofs.Common.{◌≡◌, ◌≢◌, ℕ, ◌+◌, ◌-◌, ◌<◌, true, false, List, [], ◌∷◌, ◌++◌, length, set, get_or, refl, ap, sym, subst, ◌∙◌, arith}
use Rattle.std.specs.Prelude.{Option, Some, None, not, is_some, slice_get, option_and_then, option_map}
use Rattle.std.specs.List.{SwappedAt}
use Rattle.std.proofs.lemmas.Option.{get_or_from_slice_get}
use Rattle.std.proofs.lemmas.List.{ext_get_or, set-get_or, get_or-set_same, get_or-set_other, get_or_push, get_or_append_left, length-set}
use Rattle.voxel_block.specs.declared.key.BlockKey.{BlockKey}
use Rattle.voxel_block.specs.declared.voxel.Voxel.{Voxel}
use Rattle.block_heap.specs.declared.cell.Cell.{Cell}
use Rattle.block_heap.specs.declared.cell.Cell.TheVariants.{Free, Owned}
use Rattle.block_heap.specs.Cells.{Cells, content, freed, given_up, given_up_with, is_free}
use Rattle.block_heap.specs.HeapLending.{with_block_at, with_block_in}
use Rattle.block_heap.specs.Lending.{with_block}
use Rattle.block_heap.proofs.FreeLists.{by_number}

-- ys is xs, of n elements, without the one at i, whose place the last one took
pub record IsTakenOut {X : Type 0} (xs ys : List X) (i n : ℕ) : Type 0 where
  pub here : (d : X) → i + 1 < n → get_or ys i d ≡ get_or xs (n - 1) d
  pub others : (k : ℕ) (d : X) → k ≢ i → k + 1 < n → get_or ys k d ≡ get_or xs k d
  pub before : length xs ≡ n
  pub after : length ys + 1 ≡ n

module _ {X : Type 0} (xs ys zs : List X) (i n : ℕ) (y d : X) (taken : IsTakenOut xs ys i n) (below : i < n) (swapped : SwappedAt (ys ++ y ∷ []) zs i (length ys)) where
  at_place : get_or zs i d ≡ y
  at_place = swapped.0 d ∙ get_or_push ys y d (length ys) refl

  at_last : i ≢ length ys → get_or zs (length ys) d ≡ get_or xs (length ys) d
  at_last other =
      let inner : i < length ys = omega arith in
      let last : n - 1 ≡ length ys = omega arith in
      swapped.1 d ∙ get_or_append_left ys (y ∷ []) d i inner ∙ taken.here d (omega arith) ∙ ap (λ k. get_or xs k d) last

  at_other : (k : ℕ) → k ≢ i → k ≢ length ys → k < length xs → get_or zs k d ≡ get_or xs k d
  at_other k other inner within =
      let front : k < length ys = omega arith in
      swapped.2 k d other inner ∙ get_or_append_left ys (y ∷ []) d k front ∙ taken.others k d other (omega arith)

  each : length zs ≡ length xs → (k : ℕ) → k < length zs → get_or zs k d ≡ get_or (set xs i y) k d
  each same k within =
      let in_xs : k < length xs = omega arith in
      let place : i < length xs = omega arith in
      by_number k i
      (λ e. subst (λ j. get_or zs j d ≡ get_or (set xs i y) j d) (sym e) (at_place ∙ sym (get_or-set_same xs i y d place)))
      (λ other. by_number k (length ys)
      (λ e. subst (λ j. get_or zs j d ≡ get_or xs j d) (sym e) (at_last (λ f. other (e ∙ sym f))) ∙ sym (get_or-set_other xs i k y d other))
      (λ inner. at_other k other inner in_xs ∙ sym (get_or-set_other xs i k y d other)))

  -- it is put back with y in its place
  put_back : length zs ≡ length xs → zs ≡ set xs i y
  put_back same = ext_get_or d zs (set xs i y) (same ∙ sym (length-set xs i y)) (each same)

-- where an element is taken out, y comes last, and the last one changes places with the one at i
pub changed_by_swap : {X : Type 0} (xs ys ws zs : List X) (i n last : ℕ) (y : X) → IsTakenOut xs ys i n → i < n → ws ≡ ys ++ y ∷ [] → last ≡ length ys → SwappedAt ws zs i last → length zs ≡ length xs
    → zs ≡ set xs i y
changed_by_swap xs ys ws zs i n last y taken below pushed end swapped same =
    put_back xs ys zs i n y y taken below (subst (λ k. SwappedAt (ys ++ y ∷ []) zs i k) end (subst (λ us. SwappedAt us zs i last) pushed swapped)) same

pub is_free-freed : (c : Cell) → is_free (freed c) ≡ true
is_free-freed (Free b) = refl
is_free-freed (Owned k b) = refl

-- the heap after an owned cell was given up
pub given_up_is : (h : Cells) (n : ℕ) (c : Cell) → slice_get h.cells n ≡ Some c → is_free c ≡ false → given_up h n ≡ record { cells = set h.cells n (freed c); free = h.free ++ n ∷ [] }
given_up_is h n (Free b) is owned = absurd (cc)
given_up_is h n (Owned k b) is owned = ap (λ o. given_up_with h n (option_and_then content o)) is

pub is_free-with_block : (c : Cell) (w : List Voxel) → is_free (with_block c w) ≡ is_free c
is_free-with_block (Free b) w = refl
is_free-with_block (Owned k b) w = refl

pub set_same : (cells : List Cell) (n : ℕ) (c : Cell) → slice_get cells n ≡ Some c → set cells n c ≡ cells
set_same cells n c is = ap (set cells n) (sym (get_or_from_slice_get cells n c c is)) ∙ set-get_or cells n c

-- the heap after a block was written in an owned cell
pub with_block_at_is : (h : Cells) (n : ℕ) (c : Cell) (w : List Voxel) → slice_get h.cells n ≡ Some c → record { cells = set h.cells n (with_block c w); free = h.free } ≡ with_block_at h n w
with_block_at_is h n (Free b) w is = (λ i. record { cells = set_same h.cells n (Free b) is i; free = h.free }) ∙ sym (ap (λ o. with_block_in h n (option_and_then content o) w) is)
with_block_at_is h n (Owned k b) w is = sym (ap (λ o. with_block_in h n (option_and_then content o) w) is)

-- a block is lent exactly where the cell is not free
pub lent_where_owned : {A B : Type 0} (f : A → B) (g : BlockKey × List Voxel → B) (r : Option A) (c : Cell) → option_map f r ≡ option_map g (content c) → is_some r ≡ not (is_free c)
lent_where_owned f g None (Free b) e = refl
lent_where_owned f g None (Owned k b) e = absurd (cc)
lent_where_owned f g (Some a) (Free b) e = absurd (cc)
lent_where_owned f g (Some a) (Owned k b) e = refl
