use Rattle.std.proofs.Common.{◌+◌, ◌≤◌, ◌≡◌, ◌<◌, length, ap, sym, ◌∙◌, drop, arith, length-append, length-drop, length-take}
use Rattle.std.proofs.lemmas.List.{drop_all}
use Rattle.scan_io.specs.Memory.{Supply}
use Rattle.scan_io.proofs.Pieces.{left_after}
use Rattle.scan_io.proofs.mem_source.MemSourceSource.read.Goals as goal

pub returns-clause-bytes : goal.returns-clause-bytes
returns-clause-bytes c =
    let n = c.min-count.result in
    let same : c.args.self.now.left ≡ c.is_failing.new.self.left = ap (λ (s : Supply). s.left) (sym c.is_failing.ensures.same) in
    let before : c.is_failing.new.self.left ≡ drop c.self.inside.at c.self.inside.bytes.items = ap (λ (s : Supply). s.left) (sym c.self.view_is) in
    let fits : c.self.inside.at + n ≤ length c.self.inside.bytes.items = omega (arith, c.self.inside.bytes.ok.0) in (
      same ∙ before ∙ left_after c.self.inside.bytes.items c.copy_from_slice.new.self (drop n c.args.buf.now) c.self.inside.at n fits (cc (c.copy_from_slice.ensures.after, c.deref.ensures.value)),
      λ none room.
          let got : length c.copy_from_slice.new.self ≡ n = omega (arith, simp length-take at c.copy_from_slice.auto.self) in
          let long : 0 < length c.args.buf.now = omega (arith, got, none, simp (length-append, length-drop) at room) in
          drop_all (c.self.inside.at + n) c.self.inside.bytes.items (omega (arith, long, none, c.self.inside.bytes.ok.0)),
    )
