use Rattle.std.proofs.Common.{◌+◌, ◌≤◌, ◌≡◌, length, ap, sym, ◌∙◌, drop, arith}
use Rattle.scan_gen.specs.Supply.{Supply}
use Rattle.scan_gen.proofs.Pieces.{left_after}
use Rattle.scan_gen.proofs.gen_source.GenSource.give.Goals as goal

pub returns-clause-bytes : goal.returns-clause-bytes
returns-clause-bytes c =
    let n = c.min-count.result in
    let before : c.args.self.now.held ≡ drop c.self.inside.at c.self.inside.part.items = ap (λ (s : Supply). s.held) (sym c.self.view_is) in
    let fits : c.self.inside.at + n ≤ length c.self.inside.part.items = omega (arith, c.self.inside.part.ok.0) in
    before ∙ left_after c.self.inside.part.items c.copy_from_slice.new.self (drop n c.args.buf.now) c.self.inside.at n fits (cc (c.copy_from_slice.ensures.after, c.deref.ensures.value))
