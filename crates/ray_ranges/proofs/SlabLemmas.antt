-- Slabs and tiles: how many there are, and the index of a range.
use Rattle.std.proofs.Common.{◌≡◌, ℕ, ◌+◌, ◌-◌, ◌*◌, ◌/◌, ◌%◌, ◌<◌, ◌≤◌, min, max, sym, ap, ◌∙◌, arith, ◌⊎◌, inl, inr}
use Rattle.std.proofs.Math.Nat.{mul-div-le, lt-mul-div-succ, mul-add-mod_self_right, mod-eq_of_lt, mul-le-mul_right, mul-le-mul, mul_comm, add-mul, mul-add, div-lt_iff_lt-mul}
use Rattle.std.proofs.lemmas.Bool.{cases_lt}
use Rattle.ray_ranges.specs.Slabs.{slab_count}

-- what holds where a number is below another one, and where it is not
pub by_lt : {P : Type 0} (a b : ℕ) → (a < b → P) → (b ≤ a → P) → P
by_lt {P} a b f g = by (cases_lt a b)
  where
    by : (a < b) ⊎ (b ≤ a) → P
    by (inl h) = f h
    by (inr h) = g h

next_product : (t s : ℕ) → (t + 1) * s ≡ t * s + s
next_product t s = plain ((t + 1) * s) (t * s) (1 * s) s (add-mul t 1 s) (omega (arith))
  where
    plain : (a b c s : ℕ) → a ≡ b + c → c ≡ s → a ≡ b + s
    plain a b c s e f = omega (arith)

next_times : (n w : ℕ) → n * (w + 1) ≡ n * w + n
next_times n w = plain (n * (w + 1)) (n * w) (n * 1) n (mul-add n w 1) (omega (arith))
  where
    plain : (a b c s : ℕ) → a ≡ b + c → c ≡ s → a ≡ b + s
    plain a b c s e f = omega (arith)

-- an index in the part of tile t, of T tiles with s ranges each
pub index_below : (t w T s : ℕ) → t < T → w < s → t * s + w < T * s
index_below t w T s ht hw = plain (t * s) w s ((t + 1) * s) (T * s) (next_product t s) (mul-le-mul_right s (up t T ht)) hw
  where
    up : (t T : ℕ) → t < T → t + 1 ≤ T
    up t T h = omega (arith)

    plain : (p w s q r : ℕ) → q ≡ p + s → q ≤ r → w < s → p + w < r
    plain p w s q r e h i = omega (arith)

pub tile_below : (t T s : ℕ) → t < T → t * s + s ≤ T * s
tile_below t T s ht = plain (t * s) s ((t + 1) * s) (T * s) (next_product t s) (mul-le-mul_right s (up t T ht))
  where
    up : (t T : ℕ) → t < T → t + 1 ≤ T
    up t T h = omega (arith)

    plain : (p s q r : ℕ) → q ≡ p + s → q ≤ r → p + s ≤ r
    plain p s q r e h = omega (arith)

-- the slab is told by the index
pub same_slab : (t w t' w' s : ℕ) → w < s → w' < s → t * s + w ≡ t' * s + w' → w ≡ w'
same_slab t w t' w' s h h' e = sym (mod-eq_of_lt h) ∙ sym (mul-add-mod_self_right t s w) ∙ ap (λ (i : ℕ). i % s) e ∙ mul-add-mod_self_right t' s w' ∙ mod-eq_of_lt h'

-- a point is in its slab
pub slab_from : (n j : ℕ) → n * (j / n) ≤ j
slab_from n j = mul-div-le j n

pub slab_to : (n j : ℕ) → 1 ≤ n → j < n * (j / n + 1)
slab_to n j h = lt-mul-div-succ j (omega (arith))

-- the slab of a point below n s is one of s
pub slab_below : (n s j : ℕ) → 1 ≤ n → j < n * s → j / n < s
slab_below n s j n1 h = (div-lt_iff_lt-mul (omega (arith))).1 (less j (n * s) (s * n) (mul_comm n s) h)
  where
    less : (j a b : ℕ) → a ≡ b → j < a → j < b
    less j a b e h = omega (arith)

-- a later point is in no earlier slab
pub slab_order : (n i j : ℕ) → 1 ≤ n → i ≤ j → i / n ≤ j / n
slab_order n i j n1 le = below (i / n) (j / n) ((div-lt_iff_lt-mul {x = i} {y = j / n + 1} (omega (arith))).1 (less i j (n * (j / n + 1)) ((j / n + 1) * n) (mul_comm n (j / n + 1)) le (slab_to n j n1)))
  where
    less : (i j a b : ℕ) → a ≡ b → i ≤ j → j < a → i < b
    less i j a b e h k = omega (arith)

    below : (a b : ℕ) → a < b + 1 → a ≤ b
    below a b h = omega (arith)

-- the slab of a point
pub slab_is_from : (n w j : ℕ) → j / n ≡ w → n * w ≤ j
slab_is_from n w j e = plain (n * (j / n)) (n * w) j (ap (λ (i : ℕ). n * i) e) (slab_from n j)
  where
    plain : (a b j : ℕ) → a ≡ b → a ≤ j → b ≤ j
    plain a b j e h = omega (arith)

pub slab_is_to : (n w j : ℕ) → 1 ≤ n → j / n ≡ w → j < n * w + n
slab_is_to n w j n1 e = plain (n * (j / n + 1)) (n * (w + 1)) (n * w) n j (ap (λ (i : ℕ). n * (i + 1)) e) (next_times n w) (slab_to n j n1)
  where
    plain : (a b c n j : ℕ) → a ≡ b → b ≡ c + n → j < a → j < c + n
    plain a b c n j e f h = omega (arith)

-- the slabs of n points hold all points
pub count_holds : (p n : ℕ) → 1 ≤ n → p ≤ n * slab_count p n
count_holds p n n1 = plain p n (n * ((p + n - 1) / n)) (n * ((p + n - 1) / n + 1)) n1 (next_times n ((p + n - 1) / n)) (slab_to n (p + n - 1) n1)
  where
    plain : (p n q r : ℕ) → 1 ≤ n → r ≡ q + n → p + n - 1 < r → p ≤ q
    plain p n q r a e h = omega (arith)

-- and are few
pub count_few : (p n : ℕ) → 1 ≤ n → p ≤ 32 * n → slab_count p n ≤ 32
count_few p n n1 h = below ((p + n - 1) / n) (slab_below n 33 (p + n - 1) n1 (plain p n (n * 33) (omega (arith)) n1 h))
  where
    below : (q : ℕ) → q < 33 → q ≤ 32
    below q h = omega (arith)

    plain : (p n m : ℕ) → m ≡ 33 * n → 1 ≤ n → p ≤ 32 * n → p + n - 1 < m
    plain p n m e a h = omega (arith)

-- where the last slab of any shape ends
pub slabs_end : (n s : ℕ) → n ≤ 512 → s ≤ 32 → n * s ≤ 16384
slabs_end n s h i = mul-le-mul h i

-- a number of a loop that ends behind the last one
pub last_below : (i last n : ℕ) → i ≤ last → last + 1 ≤ n → i < n
last_below i last n h k = omega (arith)

-- the greater one of a point and where a slab begins, and the smaller one of a point and where it ends
pub start_within : (a first start n w : ℕ) → a ≡ max first start → start ≡ n * w → n * w ≤ a
start_within a first start n w e f = plain a first start (n * w) e f
  where
    plain : (a f s m : ℕ) → a ≡ max f s → s ≡ m → m ≤ a
    plain a f s m e g = omega (arith)

pub end_within : (b last start n w : ℕ) → 1 ≤ n → b ≡ min last (start + n - 1) → start ≡ n * w → b < n * (w + 1)
end_within b last start n w n1 e f = plain b last start (n * w) n (n * (w + 1)) n1 e f (next_times n w)
  where
    plain : (b l s m n x : ℕ) → 1 ≤ n → b ≡ min l (s + n - 1) → s ≡ m → x ≡ m + n → b < x
    plain b l s m n x h e g f = omega (arith)

-- the part of a tile ends inside the list
pub part_inside : (start t T s l : ℕ) → start ≡ t * s + 0 → t < T → l ≡ T * s → start + s ≤ l
part_inside start t T s l e h k = plain start (t * s) s (T * s) l e (tile_below t T s h) k
  where
    plain : (a b s r l : ℕ) → a ≡ b + 0 → b + s ≤ r → l ≡ r → a + s ≤ l
    plain a b s r l e h k = omega (arith)
