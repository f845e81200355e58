use Rattle.std.proofs.Common.{sym}
use Rattle.scan_gen.proofs.Roots.{root_is}
use Rattle.scan_gen.proofs.root.root.Goals as goal

pub returns-then-is_root : goal.returns-then-is_root
returns-then-is_root c = let tried = c.is_root.ensures c.if-is_root.true in sym (root_is c.args.n c.saturating_f64_to_u64-estimate.result tried.0 tried.1)

pub returns-then-is_root-2 : goal.returns-then-is_root-2
returns-then-is_root-2 c = let tried = c.is_root-2.ensures c.if-is_root-2.true in sym (root_is c.args.n c.saturating_sub-below.result tried.0 tried.1)

pub returns : goal.returns
returns c = sym (root_is c.args.n c.isqrt.result c.isqrt.ensures.square_le c.isqrt.ensures.next_square_gt)
