use Rattle.std.proofs.Common.{◌≡◌, ℕ, List, set, ap, ◌∙◌, get_or-set_other}
use Rattle.fusion_core.specs.declared.board.slot.Slot.{Slot}
use Rattle.fusion_core.specs.declared.board.slot.Slot.TheVariants.{Away}
use Rattle.fusion_core.specs.Jobs.{slot_at, departed}
use Rattle.fusion_core.proofs.PutLemmas.{two_put}
use Rattle.fusion_core.proofs.board.core_steps.do_leave.Goals as goal

pub returns-clause-slots : goal.returns-clause-slots
returns-clause-slots c =
    let l : List Slot = c.args.slots.now.items in let a : ℕ = c.args.dock in let b : ℕ = c.args.cell in let r = c.leave-cell_slot.result in
    let first = c.take_slot-dock_slot.ensures in let second = c.take_slot-cell_slot.ensures in
    let there : c.take_slot-cell_slot.result ≡ slot_at l b = second.value ∙ ap (λ (m : List Slot). slot_at m b) first.items ∙ get_or-set_other l a b Away Away c.requires.apart in
    let e : r ≡ departed (slot_at l b) (slot_at l a) = c.leave-cell_slot.ensures ∙ (λ i. departed (there i) (first.value i)) in
    c.put_slot-2.ensures.items ∙ ap (λ (m : List Slot). set m b r.0) (c.put_slot.ensures.items ∙ ap (λ (m : List Slot). set m a r.1) (second.items ∙ ap (λ (m : List Slot). set m b Away) first.items))
    ∙ (two_put l a b Away r.1 r.0 c.requires.apart ∙ (λ i. set (set l a (e i).1) b (e i).0))
