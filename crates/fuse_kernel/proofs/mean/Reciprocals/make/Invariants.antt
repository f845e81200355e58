use Rattle.std.proofs.Common.{◌≡◌, ℕ, ◌+◌, ◌/◌, ◌≤◌, ◌<◌, get_or, length}
use Rattle.fuse_kernel.proofs.mean.Reciprocals.make.Given as goal

abbrev pub invariant-loop-w : goal.invariant-loop-w
invariant-loop-w l = (length l.reciprocals ≡ 256) × ((w : ℕ) → w < l.w → 1 ≤ w → get_or l.reciprocals w 0 ≡ 18446744073709551615 / (w + 1) + 1)
