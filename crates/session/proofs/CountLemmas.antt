-- A walk over the keys of a map that counts those that pass a test.
use Rattle.std.proofs.Common.{◌≡◌, ℕ, ◌+◌, true, false, cond, List, ◌∷◌, length, sym, ap, ◌∙◌, arith, add-zero, Bool}
use Rattle.std.specs.List.{count_by}
use Rattle.std.specs.FinMap.{FinMap, keys, entries, len, len-entries}
use Rattle.std.proofs.lemmas.List.{length-map}
use Rattle.std.proofs.lemmas.List.Sums.{sum_by-cons}
use Rattle.voxel_block.specs.Keys.{key_cmp}

pub added : (n a b c total : ℕ) → c ≡ a + b → n + c ≡ total → (n + a) + b ≡ total
added n a b c total e h = omega arith

module _ {X : Type 0} (test : X → Bool) where
  pub count_by-cons : (x : X) (xs : List X) → count_by test (x ∷ xs) ≡ cond (test x) 1 0 + count_by test xs
  count_by-cons x xs = sum_by-cons (λ y. cond (test y) 1 0) x xs

  pub counted_yes : (x : X) (xs ys : List X) (n total : ℕ) → ys ≡ x ∷ xs → test x ≡ true → n + count_by test ys ≡ total → (n + 1) + count_by test xs ≡ total
  counted_yes x xs ys n total is passes h =
      let e : count_by test ys ≡ 1 + count_by test xs = ap (count_by test) is ∙ count_by-cons x xs ∙ ap (λ t. cond t 1 0 + count_by test xs) passes in
      added n 1 (count_by test xs) (count_by test ys) total e h

  pub counted_no : (x : X) (xs ys : List X) (n total : ℕ) → ys ≡ x ∷ xs → test x ≡ false → n + count_by test ys ≡ total → n + count_by test xs ≡ total
  counted_no x xs ys n total is fails h =
      let e : count_by test ys ≡ 0 + count_by test xs = ap (count_by test) is ∙ count_by-cons x xs ∙ ap (λ t. cond t 1 0 + count_by test xs) fails in
      ap (λ k. k + count_by test xs) (sym (add-zero n)) ∙ added n 0 (count_by test xs) (count_by test ys) total e h

pub shorter : {X : Type 0} (x : X) (xs ys : List X) → ys ≡ x ∷ xs → length ys ≡ length xs + 1
shorter x xs ys is = ap length is ∙ (omega arith)

pub count_keys : {X : Type 0} (m : FinMap key_cmp X) → len m ≡ length (keys m)
count_keys m = len-entries m ∙ sym (length-map (entries m) (λ e. e.0))
