use Rattle.std.proofs.Common.{ℕ, List, set, ap, ◌∙◌}
use Rattle.fusion_core.specs.declared.board.slot.Slot.{Slot}
use Rattle.fusion_core.specs.declared.board.slot.Slot.TheVariants.{Away}
use Rattle.fusion_core.specs.Jobs.{stayed}
use Rattle.fusion_core.proofs.PutLemmas.{one_put}
use Rattle.fusion_core.proofs.board.core_steps.do_stay.Goals as goal

pub returns-clause-slots : goal.returns-clause-slots
returns-clause-slots c =
    let l : List Slot = c.args.slots.now.items in let k : ℕ = c.args.cell in
    c.put_slot.ensures.items ∙ ap (λ (m : List Slot). set m k c.stay-slot.result) c.take_slot-slot.ensures.items ∙ (one_put l k Away c.stay-slot.result
    ∙ ap (set l k) (c.stay-slot.ensures ∙ ap (stayed c.args.tools.now) c.take_slot-slot.ensures.value))
