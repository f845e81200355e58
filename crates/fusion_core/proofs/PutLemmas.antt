-- Slots that are taken out and put back.
use Rattle.std.proofs.Common.{◌≡◌, ◌≢◌, ℕ, List, set, ap, ◌∙◌}
use Rattle.std.proofs.lemmas.List.{set-set, set_comm}
use Rattle.fusion_core.specs.declared.board.slot.Slot.{Slot}

pub one_put : (l : List Slot) (k : ℕ) (away x : Slot) → set (set l k away) k x ≡ set l k x
one_put l k away x = set-set l k away x

pub two_put : (l : List Slot) (a b : ℕ) (away x y : Slot) → b ≢ a → set (set (set (set l a away) b away) a x) b y ≡ set (set l a x) b y
two_put l a b away x y ne =
    ap (λ (m : List Slot). set m b y) (set_comm (set l a away) b a away x ne ∙ ap (λ (m : List Slot). set m b away) (set-set l a away x)) ∙ set-set (set l a x) b away y
