use Rattle.std.proofs.Common.{rules, ◌≡◌, ℕ, ◌+◌, ◌<◌, ◌≤◌, ◌++◌, List, [], ◌∷◌, length, sym, ap, ◌∙◌, arith, subst, length-append}
use Rattle.std.specs.Prelude.{is_some}
use Rattle.std.proofs.lemmas.Bool.{false≢true}
use Rattle.fusion_core.specs.Jobs.{Start}
use Rattle.work_board.specs.declared.turn.Turn.{Turn}
use Rattle.work_board.specs.declared.turn.Turn.TheVariants.{Did}
use Rattle.work_board.specs.declared.view.View.{View}
use Rattle.work_board.specs.Seats.{IsTurn}
use Rattle.work_board.proofs.Growing.{did_more, below_still, too_many}
use Rattle.work_board.proofs.board.Board.finish_turns.Goals as goal

length_more : (d e : List ℕ) (j n i : ℕ) → e ≡ d ++ j ∷ [] → length d ≡ n + i → length e ≡ n + (i + 1)
length_more d e j n i p q = ap length p ∙ length-append d (j ∷ []) ∙ omega arith

pub loop-i-preserved : goal.loop-i-preserved
loop-i-preserved c =
    let inv = c.loop-i.invariant in let v : View = c.loop-i.seat.knows in let w : View = c.turn_with.new.seat.knows in
    let first : List ℕ = c.args.seat.now.knows.did in let d : List ℕ = v.did in let e : List ℕ = w.did in
    let t : IsTurn v w (Did c.in-Did.field-0) = subst (λ (x : Turn). IsTurn v w x) c.in-Did.is c.turn_with.ensures.turned in
    let grown : e ≡ d ++ c.in-Did.field-0 ∷ [] = ap (λ (z : View). z.did) t.2 in
    let few : c.in-Did.field-0 < length c.args.self.now.start.jobs = subst (λ (s : Start). c.in-Did.field-0 < length s.jobs) inv.0.1 t.0 in
    let le : length first ≤ length d = let l = inv.3 in omega arith in (
      c.turn_with.ensures.belongs,
      ap (λ (z : View). z.part) t.2 ∙ inv.1,
      did_more first d e c.in-Did.field-0 inv.2 grown le,
      length_more d e c.in-Did.field-0 (length first) c.loop-i.i grown inv.3,
      (λ some. c.turn_with.ensures.once),
      below_still first d e c.in-Did.field-0 (length c.args.self.now.start.jobs) grown le few inv.5,
      ap (λ (z : View). z.mark) t.2 ∙ inv.6,
      (λ marked. absurd (false≢true (ap is_some (sym t.1 ∙ inv.6) ∙ marked))),
    )

pub unreachable-requires : goal.unreachable-requires
unreachable-requires c =
    let inv = c.loop-i.invariant in let jobs : ℕ = length c.args.self.now.start.jobs in
    let n : c.len-i-end.result ≡ jobs = search rules in
    let past : jobs + 1 ≤ c.loop-i.i = subst (λ (k : ℕ). k + 1 ≤ c.loop-i.i) n c.loop-i-test.false in
    let some : 0 < c.loop-i.i = omega arith in
    too_many c.args.seat.now.knows.did c.loop-i.seat.knows.did jobs c.loop-i.i inv.2 inv.3 (inv.4 some) inv.5 past
