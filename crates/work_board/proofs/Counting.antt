-- How many different numbers below another one there can be, and one more seat at a board.
use Rattle.std.proofs.Common.{◌≡◌, ℕ, zero, suc, ◌+◌, ◌<◌, ◌≤◌, List, [], ◌∷◌, ◌++◌, length, refl, sym, ap, arith, eqb, cond, nat_lt, inl, inr, ⊎_elim, ◌⊎◌}
use Rattle.std.specs.Prelude.{Some, slice_get}
use Rattle.std.proofs.lemmas.Bool.{false≢true}
use Rattle.std.proofs.lemmas.List.Sums.{sum_by-append}
use mathlib.Core.Option.{some, some-injective, some-ne-none}
use lib.ListN.{get_elem?}
use Rattle.fusion_core.specs.declared.board.hand.Hand.TheVariants.{Idle, Works}
use Rattle.fusion_core.specs.Boards.{IsReady}
use Rattle.fusion_core.specs.BoardStates.{BoardState, IsWhole, has_drawn, waits, works}
use Rattle.fusion_core.specs.Counts.{count_of}
use Rattle.fusion_core.specs.Jobs.{Start}
use Rattle.fusion_core.proofs.ReadyLemmas.{free_inside}
use Rattle.fusion_core.proofs.StepLemmas.{is_working}
use Rattle.fusion_core.proofs.SumLemmas.{count_of-cons, none_no_some, same_test, some_same}

-- ---- a list read in two ways

-- what a table's list has at a number
pub got_at : {A : Type 0} (l : List A) (i : ℕ) (a : A) → get_elem? l i ≡ some a → slice_get l i ≡ Some a
got_at [] i a e = absurd (some-ne-none a (sym e))
got_at (x ∷ xs) zero a e = ap Some (some-injective x a e)
got_at (x ∷ xs) (suc i) a e = got_at xs i a e

slice_get-snoc : {A : Type 0} (l : List A) (a b : A) (j : ℕ) → slice_get (l ++ a ∷ []) j ≡ Some b → (slice_get l j ≡ Some b) ⊎ (a ≡ b)
slice_get-snoc [] a b zero e = inr (some_same a b e)
slice_get-snoc [] a b (suc j) e = none_no_some b e
slice_get-snoc (x ∷ xs) a b zero e = inl e
slice_get-snoc (x ∷ xs) a b (suc j) e = slice_get-snoc xs a b j e

-- ---- one more seat

-- a board stays whole with one more worker, whose hands are empty
pub more_hands : (m : BoardState) → IsWhole m → IsWhole record m { hands = m.hands ++ Idle ∷ [] }
more_hands m o = record {
  ready = o.ready;
  slot_count = o.slot_count;
  done_count = o.done_count;
  next_fits = o.next_fits;
  once = λ j. omega (arith, sum_by-append (works j) m.hands (Idle ∷ []), o.once j);
  drawn_once = λ c. omega (arith, sum_by-append (has_drawn c) m.hands (Idle ∷ []), o.drawn_once c);
  wanted = λ w j got e some-got. ⊎_elim (λ t. o.wanted w j got t some-got) (λ t. absurd (false≢true (ap is_working t))) (slice_get-snoc m.hands Idle (Works j got) w e);
  room = omega (arith, sum_by-append (waits m.start) m.hands (Idle ∷ []), o.room);
  result = o.result;
  else_same = o.else_same;
  kinds = o.kinds;
}

-- ---- different numbers

-- how often a list has numbers below n
abbrev below_count : ℕ → List ℕ → ℕ
below_count zero l = 0
below_count (suc n) l = count_of n l + below_count n l

below_nil : (n : ℕ) → below_count n [] ≡ 0
below_nil zero = refl
below_nil (suc n) = omega (arith, below_nil n)

below_here : (x n : ℕ) → cond (eqb x n) 1 0 + cond (nat_lt x n) 1 0 ≡ cond (nat_lt x (suc n)) 1 0
below_here x n = grind arith

below_zero : (x : ℕ) → ◌≡◌ {A = ℕ} 0 (cond (nat_lt x 0) 1 0)
below_zero x = grind arith

below_one : (n x : ℕ) (l : List ℕ) → below_count n (x ∷ l) ≡ cond (nat_lt x n) 1 0 + below_count n l
below_one zero x l = omega (arith, below_zero x)
below_one (suc n) x l = omega (arith, below_one n x l, below_here x n, count_of-cons n x l)

yes_below : (x n : ℕ) → x < n → ◌≡◌ {A = ℕ} (cond (nat_lt x n) 1 0) 1
yes_below x n h = grind (arith, h)

below_all : (n : ℕ) (l : List ℕ) → ((x : ℕ) → 0 < count_of x l → x < n) → below_count n l ≡ length l
below_all n [] h = below_nil n
below_all n (x ∷ l) h = let lt = h x (let t = same_test x x refl in let c = count_of-cons x x l in omega arith) in
    omega (arith, below_one n x l, yes_below x n lt, below_all n l (λ y more. h y (let c = count_of-cons y x l in omega arith)))

below_most : (n : ℕ) (l : List ℕ) → ((x : ℕ) → count_of x l ≤ 1) → below_count n l ≤ n
below_most zero l h = omega arith
below_most (suc n) l h = omega (arith, h n, below_most n l h)

-- different numbers below n are at most n
pub pigeons : (n : ℕ) (l : List ℕ) → ((x : ℕ) → count_of x l ≤ 1) → ((x : ℕ) → 0 < count_of x l → x < n) → length l ≤ n
pigeons n l once low = let a = below_all n l low in let b = below_most n l once in omega arith

-- there are at most as many free numbers as cells
pub free_short : (st : Start) → IsReady st → length st.free ≤ length st.cells
free_short st r = pigeons (length st.cells) st.free r.distinct (λ x more. free_inside st.cells x (r.free x more))
