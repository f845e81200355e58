use Rattle.std.proofs.Common.{◌≡◌, ℕ, ◌+◌, List, subst, sym, ap, ◌∙◌, arith}
use Rattle.hash_share.specs.Seats.{Toucher}
use Rattle.hash_share.specs.Steps.{Held, both}
use Rattle.hash_share.specs.Touching.{IsTied}
use Rattle.hash_share.proofs.Hands.{tied_both}
use Rattle.hash_share.proofs.share.HashShare.join.Goals as goal

pub invariant_of-seat : goal.invariant_of-seat
invariant_of-seat c =
    let m : Held = c.seat.inside.hand.seat.me in
    let n : Held = c.other.inside.hand.seat.me in
    let is : c.weigh.new.seat.me ≡ (both m.0 n.0, m.1) = c.weigh.ensures.seat.2 ∙ c.join.ensures.view in
    let p : c.seat.inside.part ≡ m.0.part = c.seat.invariant.part in
    let q : c.other.inside.part ≡ n.0.part = c.other.invariant.part in
    let sum : c.seat.inside.part + c.other.inside.part ≡ m.0.part + n.0.part = omega arith in
    let same : m.0.start ≡ n.0.start = ap (λ (t : Toucher). t.knows.start) c.seat.view_is ∙ c.requires.belongs.0.1 ∙ sym c.requires.belongs.1.1 ∙ sym (ap (λ (t : Toucher). t.knows.start) c.other.view_is) in
    let marked = c.any-seat-inside.result in
    let tied = tied_both m n c.seat.inside.hand.spares c.other.inside.hand.spares c.seat.inside.hand.marked c.other.inside.hand.marked marked c.seat.invariant.tied c.other.invariant.tied same c.any-seat-inside.ensures.yes c.any-seat-inside.ensures.no in
    let more : IsTied m.0.start (both m.0 n.0, m.1) c.take.new.self marked = subst (λ (l : List ℕ). IsTied m.0.start (both m.0 n.0, m.1) l marked) (sym c.take.ensures) tied in
    let P : Held → Type 0 = λ z. IsTied z.0.start z c.take.new.self marked in
    record { part = sum ∙ sym (ap (λ (z : Held). z.0.part) is); tied = subst P (sym is) more }
