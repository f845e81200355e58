-- Where words stand.
use Rattle.std.proofs.Common.{◌≡◌, ℕ, ◌+◌, ◌*◌, ◌<◌, ap, arith}
use Rattle.spatial_hash.specs.Table.{Table}
use Rattle.fusion_core.specs.TouchWords.{counter_at, link_at}

abbrev pub Sizes : ℕ → ℕ → Table → Type 0
Sizes b n t = (b ≡ t.buckets) × (n ≡ t.nodes)

pub link-word : (b n j : ℕ) (t u : Table) → Sizes b n t → u ≡ t → 4 * b + n + j ≡ link_at u j
link-word b n j t u s e = let p : b ≡ t.buckets = s.0 in let q : n ≡ t.nodes = s.1 in let r : link_at u j ≡ link_at t j = ap (λ (x : Table). link_at x j) e in omega arith

pub counter-word : (b n : ℕ) (t u : Table) → Sizes b n t → u ≡ t → 5 * b + 2 * n ≡ counter_at u
counter-word b n t u s e = let p : b ≡ t.buckets = s.0 in let q : n ≡ t.nodes = s.1 in let r : counter_at u ≡ counter_at t = ap counter_at e in omega arith

pub node-word : (b n a : ℕ) (t u : Table) → Sizes b n t → u ≡ t → 4 * b + a ≡ 4 * u.buckets + a
node-word b n a t u s e = let p : b ≡ t.buckets = s.0 in let r : u.buckets ≡ t.buckets = ap (λ (x : Table). x.buckets) e in omega arith

pub link-low : (b n j w : ℕ) (t : Table) → Sizes b n t → w ≡ counter_at t + 1 → j < b + n → 4 * b + n + j < w
link-low b n j w t s e l = let p : b ≡ t.buckets = s.0 in let q : n ≡ t.nodes = s.1 in omega arith

pub counter-low : (b n w : ℕ) (t : Table) → Sizes b n t → w ≡ counter_at t + 1 → 5 * b + 2 * n < w
counter-low b n w t s e = let p : b ≡ t.buckets = s.0 in let q : n ≡ t.nodes = s.1 in omega arith

pub node-low : (b n a w : ℕ) (t : Table) → Sizes b n t → w ≡ counter_at t + 1 → a < n → 4 * b + a < w
node-low b n a w t s e l = let p : b ≡ t.buckets = s.0 in let q : n ≡ t.nodes = s.1 in omega arith
