use Rattle.std.proofs.Common.{◌≡◌, ℕ, List, set, ap, ◌∙◌, get_or-set_other}
use Rattle.fusion_core.specs.declared.board.slot.Slot.{Slot}
use Rattle.fusion_core.specs.declared.board.slot.Slot.TheVariants.{Away}
use Rattle.fusion_core.specs.Jobs.{slot_at, entered}
use Rattle.fusion_core.proofs.PutLemmas.{two_put}
use Rattle.fusion_core.proofs.board.core_steps.do_enter.Goals as goal

pub returns-clause-slots : goal.returns-clause-slots
returns-clause-slots c =
    let l : List Slot = c.args.slots.now.items in let a : ℕ = c.args.cell in let b : ℕ = c.args.dock in let r = c.enter-cell_slot.result in
    let first = c.take_slot-cell_slot.ensures in let second = c.take_slot-dock_slot.ensures in
    let there : c.take_slot-dock_slot.result ≡ slot_at l b = second.value ∙ ap (λ (m : List Slot). slot_at m b) first.items ∙ get_or-set_other l a b Away Away c.requires.apart in
    let e : r ≡ entered c.args.tools.now (slot_at l a) (slot_at l b) = c.enter-cell_slot.ensures ∙ (λ i. entered c.args.tools.now (first.value i) (there i)) in
    c.put_slot-2.ensures.items ∙ ap (λ (m : List Slot). set m b r.1) (c.put_slot.ensures.items ∙ ap (λ (m : List Slot). set m a r.0) (second.items ∙ ap (λ (m : List Slot). set m b Away) first.items))
    ∙ (two_put l a b Away r.0 r.1 c.requires.apart ∙ (λ i. set (set l a (e i).0) b (e i).1))
