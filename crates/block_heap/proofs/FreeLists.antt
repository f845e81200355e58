-- Lists of the numbers of the free cells.
use Rattle.std.proofs.Common.{◌≡◌, ◌≢◌, ℕ, zero, suc, ◌+◌, ◌-◌, ◌<◌, ◌≤◌, Bool, true, false, not, cond, nat_eq, nat_lt, List, [], ◌∷◌, ◌++◌, length, set, get_or, refl, ap, sym, subst, ◌∙◌, append_assoc, length-append, arith}
use Rattle.std.specs.Prelude.{pos, Some, replicate, slice_get, count_by}
use Rattle.std.proofs.lemmas.List.{append-nil, get_or_push, length-set}
use Rattle.std.proofs.lemmas.Option.{slice_get_read}
use Rattle.std.proofs.lemmas.List.Sums.{sum_by-cons, sum_by_push, sum_by-set, get_or-le-sum_by}
use Rattle.std.proofs.lemmas.Bool.{eqb-true, eqb-false, lt-ltb, le-ltb, eq-eqb, ne_eqb}
use Rattle.std.proofs.lemmas.Bool.Decides.{nat_tests}
use Rattle.voxel_block.specs.declared.voxel.Voxel.{Voxel}
use Rattle.block_heap.specs.declared.cell.Cell.{Cell}
use Rattle.block_heap.specs.declared.cell.Cell.TheVariants.{Free, Owned}
use Rattle.block_heap.specs.Cells.{IsFreeList, has_free, is_free, is_free_at, numbers_down}

-- whether a cell is owned
abbrev pub is_owned : Cell → Bool
is_owned c = not (is_free c)

-- 1 where the test passes
abbrev once : Bool → ℕ
once b = cond b 1 0

-- how often a number is in a list
abbrev times : ℕ → List ℕ → ℕ
times n ms = count_by (λ m. nat_eq m n) ms

-- ---- cells of which one is changed

pub slice_get-set : (cells : List Cell) (m : ℕ) (c : Cell) → m < length cells → slice_get (set cells m c) m ≡ Some c
slice_get-set [] m c below = absurd (omega arith)
slice_get-set (x ∷ xs) zero c below = refl
slice_get-set (x ∷ xs) (suc m) c below = slice_get-set xs m c (omega arith)

pub slice_get-set_other : (cells : List Cell) (m n : ℕ) (c : Cell) → n ≢ m → slice_get (set cells m c) n ≡ slice_get cells n
slice_get-set_other [] m n c other = refl
slice_get-set_other (x ∷ xs) zero zero c other = absurd (other refl)
slice_get-set_other (x ∷ xs) zero (suc n) c other = refl
slice_get-set_other (x ∷ xs) (suc m) zero c other = refl
slice_get-set_other (x ∷ xs) (suc m) (suc n) c other = slice_get-set_other xs m n c (λ e. other (ap suc e))

is_free_at-set : (cells : List Cell) (m : ℕ) (c : Cell) → m < length cells → is_free_at (set cells m c) m ≡ is_free c
is_free_at-set cells m c below = ap has_free (slice_get-set cells m c below)

is_free_at-set_other : (cells : List Cell) (m n : ℕ) (c : Cell) → m ≢ n → is_free_at (set cells m c) n ≡ is_free_at cells n
is_free_at-set_other cells m n c other = ap has_free (slice_get-set_other cells m n c (λ e. other (sym e)))

pub is_free_at-lt : (cells : List Cell) (n : ℕ) → is_free_at cells n ≡ true → n < length cells
is_free_at-lt [] n e = absurd (cc)
is_free_at-lt (x ∷ xs) zero e = omega arith
is_free_at-lt (x ∷ xs) (suc n) e = let rest = is_free_at-lt xs n e in omega arith

pub is_free-get_or : (cells : List Cell) (n : ℕ) (d : Cell) → n < length cells → is_free (get_or cells n d) ≡ is_free_at cells n
is_free-get_or [] n d below = absurd (omega arith)
is_free-get_or (x ∷ xs) zero d below = refl
is_free-get_or (x ∷ xs) (suc n) d below = is_free-get_or xs n d (omega arith)

nat_lt-suc : (n count : ℕ) → nat_lt n count ≡ nat_lt (suc n) (suc count)
nat_lt-suc n count = grind (arith, nat_tests)

is_free_at-replicate : (count n : ℕ) (c : Cell) → is_free c ≡ true → is_free_at (replicate count c) n ≡ nat_lt n count
is_free_at-replicate zero n c e = sym (le-ltb n 0 (omega arith))
is_free_at-replicate (suc count) zero c e = e ∙ sym (lt-ltb 0 (suc count) (omega arith))
is_free_at-replicate (suc count) (suc n) c e = is_free_at-replicate count n c e ∙ nat_lt-suc n count

-- ---- numbers

times-cons : (n m : ℕ) (ms : List ℕ) → times n (m ∷ ms) ≡ once (nat_eq m n) + times n ms
times-cons n m ms = sum_by-cons (λ k. once (nat_eq k n)) m ms

times_push : (n m : ℕ) (ms : List ℕ) → times n (ms ++ m ∷ []) ≡ times n ms + once (nat_eq m n)
times_push n m ms = sum_by_push (λ k. once (nat_eq k n)) ms m

-- two numbers are equal or differ
pub by_number : (m n : ℕ) {P : Type 0} → (m ≡ n → P) → (m ≢ n → P) → P
by_number m n {P} f g =
    elim (nat_eq m n) as (λ b. nat_eq m n ≡ b → P) [
      | true ↦ λ e. f (eqb-true m n e)
      | false ↦ λ e. g (eqb-false m n e)
    ] refl

one_more : (count n : ℕ) → once (nat_eq count n) + once (nat_lt n count) ≡ once (nat_lt n (suc count))
one_more count n = grind (arith, nat_tests)

times-numbers_down : (count n : ℕ) → times n (numbers_down count) ≡ once (nat_lt n count)
times-numbers_down zero n = ap once (sym (le-ltb n 0 (omega arith)))
times-numbers_down (suc count) n = times-cons n count (numbers_down count) ∙ (λ i. once (nat_eq count n) + times-numbers_down count n i) ∙ one_more count n

nothing_more : (t : ℕ) → t ≡ 0 + t
nothing_more t = omega arith

nothing_after : (t : ℕ) → t + 0 ≡ t
nothing_after t = omega arith

-- ---- lists of free numbers

pub new_list : (count : ℕ) (c : Cell) → is_free c ≡ true → IsFreeList (replicate count c) (numbers_down count)
new_list count c e = record { each = λ n. times-numbers_down count n ∙ ap once (sym (is_free_at-replicate count n c e)) }

-- the list of a new heap is made from the front on: it has i numbers
pub numbers_more : (count i : ℕ) (before after : List ℕ) → i < count → after ≡ before ++ (count - 1 - i) ∷ [] → before ++ numbers_down (count - i) ≡ numbers_down count
    → after ++ numbers_down (count - (i + 1)) ≡ numbers_down count
numbers_more count i before after below pushed so_far =
    let k = count - (i + 1) in
    let last : count - 1 - i ≡ k = omega arith in
    let left : suc k ≡ count - i = omega arith in
    rw (pushed, last, append_assoc) (ap (λ m. before ++ numbers_down m) left ∙ so_far)

pub numbers_all : (count i : ℕ) (ms : List ℕ) → count ≤ i → ms ++ numbers_down (count - i) ≡ numbers_down count → ms ≡ numbers_down count
numbers_all count i ms whole so_far =
    let none : 0 ≡ count - i = omega arith in
    sym (append-nil ms) ∙ ap (λ m. ms ++ numbers_down m) none ∙ so_far

-- the cells and the numbers of a new heap
pub new_list_of : (count : ℕ) (b : List Voxel) (cells : List Cell) (free : List ℕ) → cells ≡ replicate count (Free b) → free ≡ numbers_down count → IsFreeList cells free
new_list_of count b cells free p q = rw (p, q) (new_list count (Free b) refl)

-- a cell that was owned is freed
pub freed_list : (cells : List Cell) (free : List ℕ) (m : ℕ) (c : Cell) → IsFreeList cells free → m < length cells → is_free_at cells m ≡ false → is_free c ≡ true
    → IsFreeList (set cells m c) (free ++ m ∷ [])
freed_list cells free m c list below was now = record {
  each = λ n. by_number m n
      (λ e. subst (λ k. times k (free ++ m ∷ []) ≡ once (is_free_at (set cells m c) k)) e
      (times_push m m free ∙ (λ i. (list.each m ∙ ap once was) i + once (eq-eqb m m refl i)) ∙ ap once (sym (is_free_at-set cells m c below ∙ now))))
      (λ other. times_push n m free ∙ (λ i. list.each n i + once (ne_eqb m n other i)) ∙ nothing_after (once (is_free_at cells n)) ∙ ap once (sym (is_free_at-set_other cells m n c other)));
}

only_once : (b : Bool) (t : ℕ) → 1 + t ≡ once b → (b ≡ true) × (t ≡ 0)
only_once true t e = (refl, omega arith)
only_once false t e = absurd (omega arith)

-- the first number is a free cell's, and comes no more
first_once : (cells : List Cell) (free : List ℕ) (m : ℕ) → IsFreeList cells (m ∷ free) → (is_free_at cells m ≡ true) × (times m free ≡ 0)
first_once cells free m list = only_once (is_free_at cells m) (times m free) (ap (λ b. once b + times m free) (sym (eq-eqb m m refl)) ∙ sym (times-cons m m free) ∙ list.each m)

-- the first of the free cells comes to be owned
owned_list : (cells : List Cell) (free : List ℕ) (m : ℕ) (c : Cell) → IsFreeList cells (m ∷ free) → is_free c ≡ false → IsFreeList (set cells m c) free
owned_list cells free m c list now = record {
  each = λ n. by_number m n
      (λ e. subst (λ k. times k free ≡ once (is_free_at (set cells m c) k)) e
      ((first_once cells free m list).1 ∙ ap once (sym (is_free_at-set cells m c (is_free_at-lt cells m (first_once cells free m list).0) ∙ now))))
      (λ other. nothing_more (times n free) ∙ ap (λ b. once b + times n free) (sym (ne_eqb m n other)) ∙ sym (times-cons n m free) ∙ list.each n ∙ ap once (sym (is_free_at-set_other cells m n c other)));
}

-- a cell that changes, and stays free or stays owned
pub kept_list : (cells : List Cell) (free : List ℕ) (m : ℕ) (c : Cell) → IsFreeList cells free → m < length cells → is_free c ≡ is_free_at cells m → IsFreeList (set cells m c) free
kept_list cells free m c list below same = record {
  each = λ n. list.each n ∙ ap once (by_number m n
      (λ e. subst (λ k. is_free_at cells k ≡ is_free_at (set cells m c) k) e (sym same ∙ sym (is_free_at-set cells m c below)))
      (λ other. sym (is_free_at-set_other cells m n c other)));
}

last_to_front : (cells : List Cell) (free : List ℕ) (m : ℕ) → IsFreeList cells (free ++ m ∷ []) → IsFreeList cells (m ∷ free)
last_to_front cells free m list = record {
  each = λ n.
      let front = times-cons n m free in
      let back = times_push n m free in
      let same : times n (m ∷ free) ≡ times n (free ++ m ∷ []) = omega (arith, front, back) in
      same ∙ list.each n;
}

-- the last of the free cells comes to be owned
pub drawn_list : (cells : List Cell) (all free : List ℕ) (m : ℕ) (c : Cell) → IsFreeList cells all → all ≡ free ++ m ∷ [] → is_free c ≡ false → IsFreeList (set cells m c) free
drawn_list cells all free m c list is now = owned_list cells free m c (last_to_front cells free m (subst (λ ms. IsFreeList cells ms) is list)) now

pub last_is_free : (cells : List Cell) (all free : List ℕ) (m : ℕ) → IsFreeList cells all → all ≡ free ++ m ∷ [] → is_free_at cells m ≡ true
last_is_free cells all free m list is = (first_once cells free m (last_to_front cells free m (subst (λ ms. IsFreeList cells ms) is list))).0

pub last_of : (all free : List ℕ) (m : ℕ) → all ≡ free ++ m ∷ [] → Some m ≡ slice_get all (length all - 1)
last_of all free m is =
    let count : length all ≡ length free + 1 = ap length is ∙ length-append free (m ∷ []) in
    let place : length free ≡ length all - 1 = omega arith in
    let there : get_or all (length free) m ≡ m = ap (λ ms. get_or ms (length free) m) is ∙ get_or_push free m m (length free) refl in
    sym (slice_get_read all (length all) (length free) m refl (omega arith) (sym there)) ∙ ap (λ k. slice_get all k) place

-- ---- how many there are

all_owned : (cells : List Cell) → ((n : ℕ) → is_free_at cells n ≡ false) → count_by is_owned cells ≡ length cells
all_owned [] h = refl
all_owned (x ∷ xs) h =
    let here : once (is_owned x) ≡ 1 = ap (λ b. once (not b)) (h zero) in
    let rest = all_owned xs (λ n. h (suc n)) in
    omega (arith, sum_by-cons (λ c. once (is_owned c)) x xs, here, rest)

none_free : (b : Bool) → 0 ≡ once b → b ≡ false
none_free true e = absurd (cc)
none_free false e = refl

abbrev an_owned : Cell
an_owned = Owned (record { x = pos 0; y = pos 0; z = pos 0 }) []

-- each cell is owned or has its number in the list
pub counted : (cells : List Cell) (free : List ℕ) → IsFreeList cells free → length free + count_by is_owned cells ≡ length cells
counted cells [] list = sym (nothing_more (count_by is_owned cells)) ∙ all_owned cells (λ n. none_free (is_free_at cells n) (list.each n))
counted cells (m ∷ free) list =
    let first = first_once cells free m list in
    let below = is_free_at-lt cells m first.0 in
    let before : once (is_owned (get_or cells m an_owned)) ≡ 0 = ap (λ b. once (not b)) (is_free-get_or cells m an_owned below ∙ first.0) in
    let rest = counted (set cells m an_owned) free (owned_list cells free m an_owned list refl) in
    let change = sum_by-set (λ c. once (is_owned c)) cells m an_owned an_owned below in
    let same = length-set cells m an_owned in
    omega (arith, before, rest, change, same)

one_of : (b : Bool) → once b + once (not b) ≡ 1
one_of true = refl
one_of false = refl

free_and_owned : (cells : List Cell) → count_by is_free cells + count_by is_owned cells ≡ length cells
free_and_owned [] = refl
free_and_owned (x ∷ xs) = omega (arith, sum_by-cons (λ c. once (is_free c)) x xs, sum_by-cons (λ c. once (is_owned c)) x xs, one_of (is_free x), free_and_owned xs)

-- there are as many numbers as free cells
pub free_counted : (cells : List Cell) (free : List ℕ) → IsFreeList cells free → length free ≡ count_by is_free cells
free_counted cells free list = omega (arith, counted cells free list, free_and_owned cells)

-- where a cell is owned there are fewer numbers than cells
pub has_room : (cells : List Cell) (free : List ℕ) (m : ℕ) → IsFreeList cells free → m < length cells → is_free_at cells m ≡ false → length free < length cells
has_room cells free m list below owned =
    let here : once (is_owned (get_or cells m an_owned)) ≡ 1 = ap (λ b. once (not b)) (is_free-get_or cells m an_owned below ∙ owned) in
    let some = get_or-le-sum_by (λ c. once (is_owned c)) cells m an_owned below in
    omega (arith, here, some, counted cells free list)
