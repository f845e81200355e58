-- Each step is one that the table allows.
use Rattle.std.proofs.Common.{◌≡◌, ℕ, ◌+◌, ◌%◌, ◌^◌, [], sym, subst, refl}
use Rattle.std.specs.Prelude.{Option, None, Some, is_some, true}
use mathlib.Core.Option.{none, some}
use lib.ListN.{get_elem?}
use Rattle.atomic_table.specs.Table.{step, Allows}
use Rattle.fusion_core.specs.declared.board.event.Event.TheVariants.{Draw, Finish}
use Rattle.fusion_core.specs.declared.board.hand.Hand.TheVariants.{Idle, Works}
use Rattle.fusion_core.specs.Jobs.{Start, draws, job_at, left, said}
use Rattle.work_board.specs.Events.{ByClaim, ClaimIsStep, DrawIsStep, FinishIsStep, Goes, IsEvent, claim_of, word}
use Rattle.work_board.specs.Hands.{Rests, Working}
use Rattle.work_board.specs.Rule.{FitsWord, Shows, code}
use Rattle.work_board.specs.Steps.{Held, claiming, drawing, finishing, held}
use Rattle.work_board.proofs.Keeps.{claim_goes, draw_goes, finish_goes}
use Rattle.work_board.proofs.Views.{me_is}

pub claim_is_step : ClaimIsStep
claim_is_step st seats n id s o me there rests =
    let P : Held → Type 0 = λ m. get_elem? s.views id ≡ some m.0 → Goes st seats id 0 ((word s 0 + claim_of m) % 2 ^ 64) m s o (claiming (step n 0 (claim_of m) 0 none) m (word s 0)) (ByClaim id) in
    subst P (sym (me_is me st Idle [] rests.0 rests.1 rests.2)) (claim_goes st seats n id me.0.part me.0.did me.0.mark me.0.ends rests.3 s o) there

pub draw_is_step : DrawIsStep
draw_is_step st seats n id j s o me there works carries wants =
    let P : Held → Type 0 = λ m. get_elem? s.views id ≡ some m.0 → Goes st seats id 1 ((word s 1 + 1) % 2 ^ 64) m s o (drawing (step n 1 1 0 none) m (word s 1)) (IsEvent (Draw id)) in
    subst P (sym (me_is me st (Works j None) (held st j None) works.0 works.1 carries)) (draw_goes st seats n id me.0.part j me.0.did me.0.mark me.0.ends works.2 wants s o) there

pub finish_is_step : FinishIsStep
finish_is_step st seats n id j drawn s o me there works carries wants fits =
    let c : ℕ = code (Some (said st (job_at st j) drawn)) in
    let P : Held → Type 0 = λ m. get_elem? s.views id ≡ some m.0 → Goes st seats id (j + 2) c m s o (finishing (step n (j + 2) c 0 none) m c) (IsEvent (Finish id)) in
    subst P (sym (me_is me st (Works j drawn) (left st (job_at st j) drawn) works.0 works.1 carries)) (finish_goes st seats n id me.0.part j (j + 2) drawn me.0.did me.0.mark me.0.ends works.2 wants refl fits s o) there

module _ (st : Start) (seats n id : ℕ) (me : Held) where
  pub claims : Rests st me → Allows (Shows st seats) n id me 0 (λ y. (y + claim_of me) % 2 ^ 64) (claiming (step n 0 (claim_of me) 0 none) me)
  claims rests s o slots there _ = let g = claim_is_step st seats n id s o me there rests in (g.view, g.act, g.valid, g.rule, g.told)

  pub draws_cell : (j : ℕ) → Working st me j None → me.1 ≡ held st j None → draws (job_at st j) ≡ true → Allows (Shows st seats) n id me 1 (λ y. (y + 1) % 2 ^ 64) (drawing (step n 1 1 0 none) me)
  draws_cell j works carries wants s o slots there _ = let g = draw_is_step st seats n id j s o me there works carries wants in (g.view, g.act, g.valid, g.rule, g.told)

  pub finishes : (j : ℕ) (drawn : Option ℕ) → Working st me j drawn → me.1 ≡ left st (job_at st j) drawn → draws (job_at st j) ≡ is_some drawn → FitsWord (said st (job_at st j) drawn)
      → Allows (Shows st seats) n id me (j + 2) (λ _. code (Some (said st (job_at st j) drawn))) (λ _. finishing (step n (j + 2) (code (Some (said st (job_at st j) drawn))) 0 none) me (code (Some (said st (job_at st j) drawn))))
  finishes j drawn works carries wants fits s o slots there _ = let g = finish_is_step st seats n id j drawn s o me there works carries wants fits in (g.view, g.act, g.valid, g.rule, g.told)
