use Rattle.std.proofs.Common.{◌≡◌, ℕ, sym, subst}
use Rattle.std.specs.Prelude.{Some, slice_get}
use Rattle.fusion_core.specs.declared.board.event.Event.TheVariants.{Draw}
use Rattle.fusion_core.specs.BoardStates.{BoardState, IsWhole}
use Rattle.fusion_core.specs.CoreView.{core_view}
use Rattle.fusion_core.specs.Machines.{MayDraw}
use Rattle.fusion_core.proofs.HandLemmas.{drawn_is}
use Rattle.fusion_core.proofs.StepLemmas.{step_keeps}
use Rattle.fusion_core.proofs.board.machine.Core.draw.Goals as goal

pub invariant_of-self : goal.invariant_of-self
invariant_of-self c =
    let i = c.self.inside in let w : ℕ = c.args.w in let j : ℕ = c.in-Some.j in let cell : ℕ = c.free_cell-cell.result in
    let m : BoardState = core_view i in
    let may : MayDraw m w j = subst (λ (z : BoardState). MayDraw z w j) (sym c.self.view_is) c.in-Some.ensures.may in
    let free = subst (λ (z : BoardState). slice_get z.start.free z.cursor ≡ Some cell) (sym c.self.view_is) c.free_cell-cell.ensures in
    (subst IsWhole (sym (drawn_is m w j cell may free)) (step_keeps m (Draw w) c.self.invariant.0 may.may), c.self.invariant.1)
