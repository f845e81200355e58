use Rattle.session.proofs.CollectingLemmas.{Collecting}
use Rattle.session.proofs.collecting.collect_empty.Given as goal

-- the cells so far
abbrev pub invariant-loop-cell : goal.invariant-loop-cell
invariant-loop-cell l = Collecting l.empty_f l.cell l.fn.rest l.rest l.count
