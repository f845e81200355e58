use Rattle.std.proofs.Common.{sym, ap, ◌∙◌, subst}
use Rattle.fusion_core.specs.Works.{IsWork}
use Rattle.work_board.specs.Seats.{SharedBoard}
use Rattle.work_board.proofs.board.Board.tools.Goals as goal

pub of-requires : goal.of-requires
of-requires c = subst IsWork (sym (c.requires ∙ sym (ap (λ (b : SharedBoard). b.start.work) c.self.view_is))) c.self.invariant.ready.is_work
