use Rattle.std.proofs.Common.{List, sym, subst}
use Rattle.std.specs.Float.{NotNan}
use Rattle.std.specs.Prelude.{replicate}
use Rattle.std.proofs.lemmas.Simd.{tops_compared}
use lib.Ieee.{Float, binary32, is_nan, le, of_bits}
use lib.Lanes.{Each1, sel_l}
use mir.Syntax.{w32}
use Rattle.fuse_kernel.proofs.LaneLemmas.{kept}
use Rattle.fuse_kernel.proofs.estimates.number_bits.Goals as goal

pub float_to_bits-result : goal.float_to_bits-result
unfolding is_nan of_bits
float_to_bits-result c =
    let zeros : List Float = replicate 8 (of_bits binary32 0) in
    subst (λ ms. Each1 NotNan (sel_l ms c.args.x zeros)) (sym (tops_compared w32 le zeros c.args.x)) (kept zeros c.args.x (tt, (tt, (tt, (tt, (tt, (tt, (tt, (tt, tt)))))))))
