-- The floor of a quotient: that it is one, that it is the only one, and how far two are apart.
use Rattle.std.proofs.Common.{◌≡◌, ℕ, suc, zero, ◌+◌, ◌*◌, ◌/◌, ◌≤◌, ◌<◌, arith}
use Rattle.std.specs.Prelude.{ℤ, pos, negsuc, neg_ℤ, ◌+ℤ◌, ◌-ℤ◌, ◌*ℤ◌, ◌≤ℤ◌, ◌<ℤ◌}
use Rattle.std.proofs.lemmas.Int.{ints, by_lt_z}
use Rattle.fixed_geom.specs.Division.{IsFloor, floor_div}
use Rattle.fixed_geom.specs.Vectors.{IsWithin}
use Rattle.fixed_geom.proofs.Whole.{mul_sum, mul_order, mul_group}

parts : (m n : ℕ) → (m / suc n * suc n ≤ m) × (m < (m / suc n + 1) * suc n)
parts m n = (grind arith, grind arith)

-- what the machine's division gives is the floor
pub floor_is : (a b : ℤ) → pos 1 ≤ℤ b → IsFloor a b (floor_div a b)
floor_is (pos m) (pos zero) h = absurd (omega (arith, ints))
floor_is (pos m) (pos (suc n)) h = let p = parts m n in record { below = omega (arith, ints, p.0); above = omega (arith, ints, p.1) }
floor_is (negsuc m) (pos zero) h = absurd (omega (arith, ints))
floor_is (negsuc m) (pos (suc n)) h = let p = parts m n in record { below = omega (arith, ints, p.1); above = omega (arith, ints, p.0) }
floor_is (pos m) (negsuc n) h = absurd (omega (arith, ints))
floor_is (negsuc m) (negsuc n) h = absurd (omega (arith, ints))

-- linear steps
clash : (b bx by next one : ℤ) → bx <ℤ (by +ℤ b) → next ≤ℤ bx → next ≡ by +ℤ one → one ≡ b → ⊥
clash b bx by next one k more is o = omega (arith, ints)

chain_lt : (a b c : ℤ) → a ≤ℤ b → b <ℤ c → a <ℤ c
chain_lt a b c h k = omega (arith, ints)

meet : (q r : ℤ) → q ≤ℤ r → r ≤ℤ q → q ≡ r
meet q r h k = omega (arith, ints)

shifted : (a a' bk bq next b : ℤ) → a ≤ℤ (a' +ℤ bk) → a' <ℤ (bq +ℤ b) → next ≡ bq +ℤ bk → a <ℤ (next +ℤ b)
shifted a a' bk bq next b le g is = omega (arith, ints)

from_difference : (a a' k : ℤ) → (a -ℤ a') ≤ℤ k → a ≤ℤ (a' +ℤ k)
from_difference a a' k h = omega (arith, ints)

from_difference_low : (a a' k : ℤ) → (neg_ℤ k) ≤ℤ (a -ℤ a') → a' ≤ℤ (a +ℤ k)
from_difference_low a a' k h = omega (arith, ints)

apart : (q q' k : ℤ) → q ≤ℤ (q' +ℤ k) → q' ≤ℤ (q +ℤ k) → IsWithin k (q -ℤ q')
apart q q' k h i = record { low = omega (arith, ints); high = omega (arith, ints) }

next_of : (q z : ℤ) → q <ℤ z → (q +ℤ pos 1) ≤ℤ z
next_of q z h = omega (arith, ints)

times_one : (n : ℤ) → n *ℤ pos 1 ≡ n
times_one n = omega (arith, ints)

nest_low : (x n nq nmr whole : ℤ) → nmr ≤ℤ nq → nq ≤ℤ x → whole ≡ nmr → whole ≤ℤ x
nest_low x n nq nmr whole a b e = omega (arith, ints)

nest_high : (x n nq nq1 n1 top nmr whole nm : ℤ) → x <ℤ (nq +ℤ n) → nq1 ≤ℤ top → nq1 ≡ nq +ℤ n1 → n1 ≡ n → top ≡ nmr +ℤ nm → whole ≡ nmr → x <ℤ (whole +ℤ nm)
nest_high x n nq nq1 n1 top nmr whole nm a b e f g i = omega (arith, ints)

-- if b x < b (y + 1) then x ≤ y
pub cancel : (b x y : ℤ) → pos 1 ≤ℤ b → (b *ℤ x) <ℤ (b *ℤ y +ℤ b) → x ≤ℤ y
cancel b x y h k = by_lt_z y x
    (λ (l : y <ℤ x).
    let up_one : (y +ℤ pos 1) ≤ℤ x = omega (arith, ints) in
    let more : (b *ℤ (y +ℤ pos 1)) ≤ℤ (b *ℤ x) = mul_order b (y +ℤ pos 1) x (omega (arith, ints)) up_one in
    let is : b *ℤ (y +ℤ pos 1) ≡ (b *ℤ y) +ℤ (b *ℤ pos 1) = mul_sum b y (pos 1) in
    absurd (clash b (b *ℤ x) (b *ℤ y) (b *ℤ (y +ℤ pos 1)) (b *ℤ pos 1) k more is (omega (arith, ints))))
    (λ (m : x ≤ℤ y). m)

-- a number below a quotient's bound is at most the floor
pub floor_above : (a b q x : ℤ) → pos 1 ≤ℤ b → IsFloor a b q → (b *ℤ x) ≤ℤ a → x ≤ℤ q
floor_above a b q x h f k = cancel b x q h (chain_lt (b *ℤ x) a (b *ℤ q +ℤ b) k f.above)

-- the floor is at most a number whose next one is past the quotient
pub floor_below : (a b q y : ℤ) → pos 1 ≤ℤ b → IsFloor a b q → a <ℤ (b *ℤ y +ℤ b) → q ≤ℤ y
floor_below a b q y h f k = cancel b q y h (chain_lt (b *ℤ q) a (b *ℤ y +ℤ b) f.below k)

-- there is one floor
pub floor_unique : (a b q r : ℤ) → pos 1 ≤ℤ b → IsFloor a b q → IsFloor a b r → q ≡ r
floor_unique a b q r h f g = meet q r (floor_above a b r q h g f.below) (floor_above a b q r h f g.below)

-- a number that is a floor is what the division gives
pub floor_div_is : (a b q : ℤ) → pos 1 ≤ℤ b → IsFloor a b q → floor_div a b ≡ q
floor_div_is a b q h f = floor_unique a b (floor_div a b) q h (floor_is a b h) f

-- what is at most k b greater has a floor that is at most k greater
pub floor_shift : (a a' b k q q' : ℤ) → pos 1 ≤ℤ b → IsFloor a b q → IsFloor a' b q' → a ≤ℤ (a' +ℤ b *ℤ k) → q ≤ℤ (q' +ℤ k)
floor_shift a a' b k q q' h f g le = floor_below a b q (q' +ℤ k) h f (shifted a a' (b *ℤ k) (b *ℤ q') (b *ℤ (q' +ℤ k)) b le g.above (mul_sum b q' k))

-- numbers within k b of each other have floors within k of each other
pub floor_near : (a a' b k q q' : ℤ) → pos 1 ≤ℤ b → IsFloor a b q → IsFloor a' b q' → IsWithin (b *ℤ k) (a -ℤ a') → IsWithin k (q -ℤ q')
floor_near a a' b k q q' h f g w =
    let one = floor_shift a a' b k q q' h f g (from_difference a a' (b *ℤ k) w.high) in
    let two = floor_shift a' a b k q' q h g f (from_difference_low a a' (b *ℤ k) w.low) in
    apart q q' k one two

-- the floor of a floor is the floor by the product
pub floor_nest : (x n m q r : ℤ) → pos 1 ≤ℤ n → pos 1 ≤ℤ m → IsFloor x n q → IsFloor q m r → IsFloor x (n *ℤ m) r
floor_nest x n m q r hn hm f g =
    let low : (n *ℤ (m *ℤ r)) ≤ℤ (n *ℤ q) = mul_order n (m *ℤ r) q (omega (arith, ints)) g.below in
    let next : (q +ℤ pos 1) ≤ℤ (m *ℤ r +ℤ m) = next_of q (m *ℤ r +ℤ m) g.above in
    let high : (n *ℤ (q +ℤ pos 1)) ≤ℤ (n *ℤ (m *ℤ r +ℤ m)) = mul_order n (q +ℤ pos 1) (m *ℤ r +ℤ m) (omega (arith, ints)) next in
    record {
      below = nest_low x n (n *ℤ q) (n *ℤ (m *ℤ r)) ((n *ℤ m) *ℤ r) low f.below (mul_group n m r);
      above = nest_high x n (n *ℤ q) (n *ℤ (q +ℤ pos 1)) (n *ℤ pos 1) (n *ℤ (m *ℤ r +ℤ m)) (n *ℤ (m *ℤ r)) ((n *ℤ m) *ℤ r) (n *ℤ m) f.above high (mul_sum n q (pos 1)) (times_one n) (mul_sum n (m *ℤ r) m) (mul_group n m r);
    }
