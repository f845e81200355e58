use Rattle.std.proofs.Common.{◌≡◌, ◌-◌, ◌≤◌, length, take, drop, sym, ap, arith, length-take}
use Rattle.scan_io.specs.Coming.{Kept}
use Rattle.scan_io.proofs.Pieces.{kept_after}
use Rattle.scan_io.proofs.feed.Feed.skip.Goals as goal

pub returns-clause-bytes : goal.returns-clause-bytes
returns-clause-bytes c =
    let before : c.args.self.now.bytes ≡ take (c.self.inside.end - c.self.inside.at) (drop c.self.inside.at c.self.inside.buffer.items) = ap (λ (k : Kept). k.bytes) (sym c.self.view_is) in
    let fits : c.args.count ≤ c.self.inside.end - c.self.inside.at = omega (arith, simp length-take at (ap length before)) in
    rw before (kept_after c.self.inside.buffer.items c.self.inside.at c.self.inside.end c.args.count fits)
