-- Every list of events keeps a board whole.
use Rattle.std.proofs.Common.{◌≡◌, List, [], ◌∷◌, sym, refl, subst}
use Rattle.std.specs.Prelude.{Option, None, Some}
use Rattle.fusion_core.specs.declared.board.event.Event.{Event}
use Rattle.fusion_core.specs.declared.board.event.Event.TheVariants.{Claim, Draw, Finish}
use Rattle.fusion_core.specs.declared.board.hand.Hand.{Hand}
use Rattle.fusion_core.specs.declared.board.hand.Hand.TheVariants.{Idle, Works}
use Rattle.fusion_core.specs.BoardLaws.{Runs, StaysWhole}
use Rattle.fusion_core.specs.BoardStates.{BoardState, after_draw, after_event, after_finish, opening, IsWhole}
use Rattle.std.specs.Prelude.{ℕ, slice_get}
use Rattle.fusion_core.proofs.EndLemmas.{opening_whole}
use Rattle.fusion_core.proofs.StepLemmas.{step_keeps}

draw-start : (m : BoardState) (w : ℕ) (h : Option Hand) → (after_draw m w h).start ≡ m.start
draw-start m w None = refl
draw-start m w (Some Idle) = refl
draw-start m w (Some (Works j got)) = refl

finish-start : (m : BoardState) (w : ℕ) (h : Option Hand) → (after_finish m w h).start ≡ m.start
finish-start m w None = refl
finish-start m w (Some Idle) = refl
finish-start m w (Some (Works j got)) = refl

-- the start of a board stays
pub after_event-start : (m : BoardState) (e : Event) → (after_event m e).start ≡ m.start
after_event-start m (Claim w) = refl
after_event-start m (Draw w) = draw-start m w (slice_get m.hands w)
after_event-start m (Finish w) = finish-start m w (slice_get m.hands w)

pub runs_whole : (events : List Event) (old new : BoardState) → IsWhole old → Runs old events new → IsWhole new
runs_whole [] old new o r = subst IsWhole (sym r) o
runs_whole (e ∷ events) old new o r = runs_whole events (after_event old e) new (step_keeps old e o r.0) r.1

pub stays_whole : StaysWhole
stays_whole st workers events m ready runs = runs_whole events (opening st workers) m (opening_whole st workers ready) runs
