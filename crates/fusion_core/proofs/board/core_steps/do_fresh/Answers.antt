use Rattle.std.proofs.Common.{ℕ, List, set, ap, ◌∙◌}
use Rattle.fusion_core.specs.declared.board.slot.Slot.{Slot}
use Rattle.fusion_core.specs.declared.board.slot.Slot.TheVariants.{Away}
use Rattle.fusion_core.specs.Jobs.{freshened}
use Rattle.fusion_core.proofs.PutLemmas.{one_put}
use Rattle.fusion_core.proofs.board.core_steps.do_fresh.Goals as goal

pub returns-clause-slots : goal.returns-clause-slots
returns-clause-slots c =
    let l : List Slot = c.args.slots.now.items in let k : ℕ = c.args.cell in
    c.put_slot.ensures.items ∙ ap (λ (m : List Slot). set m k c.freshen-slot.result) c.take_slot-slot.ensures.items ∙ (one_put l k Away c.freshen-slot.result
    ∙ ap (set l k) (c.freshen-slot.ensures ∙ ap (freshened c.args.tools.now c.args.key) c.take_slot-slot.ensures.value))
