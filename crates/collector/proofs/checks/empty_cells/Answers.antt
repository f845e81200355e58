use Rattle.std.proofs.Common.{rules, ◌≡◌, ◌+◌, ◌++◌, ◌≤◌, length, ap, subst, to_z, of_z}
use Rattle.std.specs.Prelude.{ℤ}
use Rattle.std.specs.Int.{w16}
use Rattle.std.proofs.lemmas.Int.{to_z-of_z}
use Rattle.collector.specs.Checks.{empty_cells_of}
use Rattle.collector.proofs.CheckLemmas.{all_pushed, empty_from, empty_next, empty_none, pushed}
use Rattle.collector.proofs.checks.empty_cells.Goals as goal

pub loop-j-init : goal.loop-j-init
loop-j-init c = ap (λ cells. cells ++ empty_cells_of (to_z w16 (of_z w16 c.args.empty_f)) c.args.jobs.now c.args.done.now) c.new-cells.ensures.items

pub returns : goal.returns
returns c =
    let jobs = c.args.jobs.now in let answers = c.args.done.now in let f : ℤ = to_z w16 (of_z w16 c.args.empty_f) in let j = c.loop-j.j in
    let done : length jobs ≤ j = search rules in
    subst (λ (e : ℤ). c.loop-j.cells.items ≡ empty_cells_of e jobs answers) (to_z-of_z w16 c.args.empty_f c.ranges.empty_f)
    (all_pushed c.loop-j.cells.items (empty_from f jobs answers j) (empty_cells_of f jobs answers) (empty_none f jobs answers j done) c.loop-j.invariant)

pub loop-j-preserved : goal.loop-j-preserved
loop-j-preserved c =
    let jobs = c.args.jobs.now in let answers = c.args.done.now in let f : ℤ = to_z w16 (of_z w16 c.args.empty_f) in let j = c.loop-j.j in
    pushed c.loop-j.cells.items c.push_empty.new.cells.items _ (empty_from f jobs answers (j + 1)) (empty_from f jobs answers j) _
    (empty_next f jobs answers j _ _ c.loop-j-test.true (search rules)) c.in_ok-push_empty.ensures c.loop-j.invariant
