-- Walks over keys that note those that pass a test.
use Rattle.std.proofs.Common.{◌≡◌, ℕ, zero, suc, ◌+◌, ◌<◌, ◌≤◌, Bool, true, false, cond, ◌&&◌, not, List, [], ◌∷◌, ◌++◌, length, drop, slice_index_or, refl, sym, ap, ◌∙◌, arith, append_assoc, append-nil}
use Rattle.std.specs.Prelude.{pos}
use Rattle.std.specs.List.{count_by, filter}
use Rattle.std.proofs.lemmas.List.Sums.{sum_by-cons}
use Rattle.fixed_geom.specs.Poses.{Pose}
use Rattle.voxel_block.specs.declared.key.BlockKey.{BlockKey}
use Rattle.camera.specs.declared.camera.CameraFields.{CameraFields}
use Rattle.camera.specs.Cameras.{is_active}
use Rattle.camera.specs.Visibility.{is_visible}

-- some key, for lists that have none
abbrev pub no_key : BlockKey
no_key = record { x = pos 0; y = pos 0; z = pos 0 }

from_place : {X : Type 0} (xs : List X) (i : ℕ) (d : X) → i < length xs → drop i xs ≡ slice_index_or xs i d ∷ drop (suc i) xs
from_place [] i d h = absurd (omega arith)
from_place (x ∷ xs) zero d h = refl
from_place (x ∷ xs) (suc i) d h = from_place xs i d (omega arith)

pub next_from : {X : Type 0} (xs : List X) (i : ℕ) (d : X) → i < length xs → drop i xs ≡ slice_index_or xs i d ∷ drop (i + 1) xs
next_from xs i d h = let e : suc i ≡ i + 1 = omega arith in from_place xs i d h ∙ ap (λ n. slice_index_or xs i d ∷ drop n xs) e

pub none_from : {X : Type 0} (xs : List X) (i : ℕ) → length xs ≤ i → drop i xs ≡ []
none_from [] zero h = refl
none_from [] (suc i) h = refl
none_from (x ∷ xs) zero h = absurd (omega arith)
none_from (x ∷ xs) (suc i) h = none_from xs i (omega arith)

module _ (test : BlockKey → Bool) where
  -- what was noted and what is still to come
  abbrev pub Noted : List BlockKey → List BlockKey → List BlockKey → Type 0
  Noted ks rest noted = noted ++ filter test rest ≡ filter test ks

  pub noted_next : (ks rest noted more : List BlockKey) (k : BlockKey) (b : Bool) (tail : List BlockKey) → rest ≡ k ∷ tail → b ≡ test k → more ≡ noted ++ cond b (k ∷ []) [] → Noted ks rest noted → Noted ks tail more
  noted_next ks rest noted more k true tail is passes new h =
      ap (λ xs. xs ++ filter test tail) new ∙ append_assoc noted (k ∷ []) (filter test tail)
      ∙ ap (λ b. noted ++ cond b (k ∷ filter test tail) (filter test tail)) passes ∙ ap (λ xs. noted ++ filter test xs) (sym is) ∙ h
  noted_next ks rest noted more k false tail is fails new h =
      ap (λ xs. xs ++ filter test tail) (new ∙ append-nil noted)
      ∙ ap (λ b. noted ++ cond b (k ∷ filter test tail) (filter test tail)) fails ∙ ap (λ xs. noted ++ filter test xs) (sym is) ∙ h

  pub noted_all : (ks rest noted : List BlockKey) → rest ≡ [] → Noted ks rest noted → noted ≡ filter test ks
  noted_all ks rest noted none h = sym (append-nil noted) ∙ ap (λ xs. noted ++ filter test xs) (sym none) ∙ h

  -- how many passed, and how many will
  abbrev pub Counted : List BlockKey → List BlockKey → ℕ → Type 0
  Counted ks rest n = n + count_by test rest ≡ count_by test ks

  pub counted_next : (ks rest tail : List BlockKey) (k : BlockKey) (n m : ℕ) (b : Bool) → rest ≡ k ∷ tail → b ≡ test k → m ≡ n + cond b 1 0 → Counted ks rest n → Counted ks tail m
  counted_next ks rest tail k n m b is passes more h =
      let e : count_by test rest ≡ cond b 1 0 + count_by test tail = ap (count_by test) is ∙ sum_by-cons (λ y. cond (test y) 1 0) k tail ∙ ap (λ c. cond c 1 0 + count_by test tail) (sym passes) in
      omega (arith, e, more, h)

  pub counted_all : (ks rest : List BlockKey) (n : ℕ) → rest ≡ [] → Counted ks rest n → n ≡ count_by test ks
  counted_all ks rest n none h = (let e : count_by test rest ≡ 0 = ap (count_by test) none in omega (arith, e, h))

-- the walk over resident keys after i of them
pub record Sorting (k : CameraFields) (m : Pose) (ks : List BlockKey) (i : ℕ) (out kept : List BlockKey) (n : ℕ) : Type 0 where
  pub leave : Noted (λ b. not (is_active k m b)) ks (drop i ks) out
  pub stay : Noted (λ b. is_active k m b && is_visible k m b) ks (drop i ks) kept
  pub active : Counted (is_active k m) ks (drop i ks) n
  pub few : n ≤ i

pub at_most_one_more : (b : Bool) (n m i : ℕ) → m ≡ n + cond b 1 0 → n ≤ i → m ≤ i + 1
at_most_one_more true n m i e h = omega arith
at_most_one_more false n m i e h = omega arith
