use Rattle.std.proofs.Common.{◌≡◌, [], length, ap, sym, ◌∙◌, drop, arith, length-drop}
use Rattle.std.proofs.lemmas.List.{drop_all}
use Rattle.scan_gen.specs.Supply.{Supply}
use Rattle.scan_gen.specs.Generated.{later_of}
use Rattle.scan_gen.proofs.Texts.{later_none, later_more, part_some}
use Rattle.scan_gen.proofs.gen_source.GenSource.prepare.Goals as goal

pub returns-then-self-len-clause-ready : goal.returns-then-self-len-clause-ready
returns-then-self-len-clause-ready c = λ none.
    let held : drop c.self.inside.at c.self.inside.part.items ≡ [] = ap (λ (s : Supply). s.held) c.self.view_is ∙ none in
    absurd (omega (arith, simp length-drop at (ap length held), c.self.inside.part.ok.0, c.len.ensures, c.if-self-len.true))

pub returns-then-self-clause-ready : goal.returns-then-self-clause-ready
returns-then-self-clause-ready c = λ none. ap (λ (s : Supply). s.later) (sym c.self.view_is) ∙ later_none c.self.inside.ball c.self.inside.frames c.self.inside.next c.if-self.true

pub returns-clause-same : goal.returns-clause-same
returns-clause-same c =
    let b = c.self.inside.ball in
    let frames = c.self.inside.frames in
    let next = c.self.inside.next in
    let held : c.args.self.now.held ≡ [] = ap (λ (s : Supply). s.held) (sym c.self.view_is) ∙ drop_all c.self.inside.at c.self.inside.part.items (omega (arith, c.self.inside.part.ok.0, c.len.ensures, c.if-self-len.false)) in
    let later : c.args.self.now.later ≡ later_of b frames next = ap (λ (s : Supply). s.later) (sym c.self.view_is) in
    rw (held, later, c.make_part.ensures.items) (sym (later_more b frames next c.if-self.false))

pub returns-clause-ready : goal.returns-clause-ready
returns-clause-ready c = λ none. absurd (part_some c.self.inside.ball c.self.inside.frames c.self.inside.next (sym c.make_part.ensures.items ∙ none))
