use Rattle.std.proofs.Common.{rules, ◌+◌, ◌++◌, ◌≤◌, length, ap}
use Rattle.collector.specs.Checks.{checks_of}
use Rattle.collector.proofs.CheckLemmas.{all_pushed, checks_from, checks_next, checks_none, pushed}
use Rattle.collector.proofs.checks.check_jobs.Goals as goal

pub loop-n-init : goal.loop-n-init
loop-n-init c = ap (λ jobs. jobs ++ checks_of c.args.cells.now) c.new-jobs.ensures.items

pub loop-n-preserved : goal.loop-n-preserved
loop-n-preserved c =
    let cells = c.args.cells.now in let n = c.loop-n.n in
    pushed c.loop-n.jobs.items c.push_check.new.jobs.items _ (checks_from cells (n + 1)) (checks_from cells n) _
    (checks_next cells n c.index-cells-n.result c.loop-n-test.true c.index-cells-n.is) c.in_ok-push_check.ensures c.loop-n.invariant

pub returns : goal.returns
returns c =
    let cells = c.args.cells.now in let n = c.loop-n.n in
    let done : length cells ≤ n = search rules in
    all_pushed c.loop-n.jobs.items (checks_from cells n) _ (checks_none cells n done) c.loop-n.invariant
