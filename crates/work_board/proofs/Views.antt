-- A view by what is known of its parts.
use Rattle.std.proofs.Common.{◌≡◌, ℕ, List}
use Rattle.fusion_core.specs.declared.board.hand.Hand.{Hand}
use Rattle.fusion_core.specs.declared.board.slot.Slot.{Slot}
use Rattle.fusion_core.specs.Jobs.{Start}
use Rattle.work_board.specs.Rule.{view}
use Rattle.work_board.specs.Steps.{Held}

pub me_is : (me : Held) (st : Start) (h : Hand) (l : List (ℕ × Slot)) → me.0.start ≡ st → me.0.hand ≡ h → me.1 ≡ l → me ≡ (view st me.0.part h me.0.did me.0.mark me.0.ends, l)
me_is me st h l p q r = λ i. (view (p i) me.0.part (q i) me.0.did me.0.mark me.0.ends, r i)
