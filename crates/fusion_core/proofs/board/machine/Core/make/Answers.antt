use Rattle.std.proofs.Common.{rules, ◌≡◌, length, sym, subst, replicate}
use Rattle.std.specs.Prelude.{None}
use Rattle.fusion_core.specs.declared.board.hand.Hand.TheVariants.{Idle}
use Rattle.fusion_core.specs.Jobs.{Start}
use Rattle.fusion_core.specs.BoardStates.{IsWhole, opening}
use Rattle.fusion_core.specs.Machines.{start_of, state_of}
use Rattle.fusion_core.proofs.EndLemmas.{opening_whole}
use Rattle.fusion_core.proofs.board.machine.Core.make.Goals as goal

pub invariant_of-result : goal.invariant_of-result
invariant_of-result c =
    let st : Start = start_of c.args.jobs.items c.args.cells.items c.args.docks.items c.args.free.items c.args.work.now in
    let hands : c.in_ok-hands.hands.items ≡ replicate c.args.workers Idle = search rules in
    let done : c.in_ok-done.done.items ≡ replicate (length c.args.jobs.items) None = search rules in
    let is : opening st c.args.workers ≡ state_of (start_of c.args.jobs.items c.of-cells_then.result.value.items c.of-docks_then.result.value.items c.args.free.items c.of.result.value) c.move_into_row.new.slots.items 0 0 c.in_ok-hands.hands.items c.in_ok-done.done.items =
    λ i. state_of (start_of c.args.jobs.items (sym c.of-cells_then.ensures i).items (sym c.of-docks_then.ensures i).items c.args.free.items (sym c.of.ensures i)) (sym c.move_into_row.ensures.slots i) 0 0 (sym hands i) (sym done i) in
    (subst IsWhole is (opening_whole st c.args.workers c.requires), search rules)
