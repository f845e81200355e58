use Rattle.std.proofs.Common.{◌≡◌, ℕ, ◌+◌, arith, subst, sym, ap, ◌∙◌}
use Rattle.std.specs.Prelude.{Option, Some}
use mathlib.Core.Option.{none}
use Rattle.atomic_table.specs.Table.{Allows, step}
use Rattle.fusion_core.specs.declared.board.done.Done.{Done}
use Rattle.fusion_core.specs.Jobs.{Start, job_at, said}
use Rattle.work_board.specs.Rule.{FitsWord, Shows, code, start_in}
use Rattle.work_board.specs.Steps.{Held, finishing}
use Rattle.work_board.proofs.Allowed.{finishes}
use Rattle.work_board.proofs.queue.Queue.finish.Goals as goal

pub store-requires : goal.store-requires
store-requires c =
    let t = c.args.self.now.table.shared in let st : Start = start_in t.key in let me : Held = c.args.seat.now.me in let n : ℕ = t.table_id.slots in
    let j : ℕ = c.args.job in let drawn : Option ℕ = c.args.drawn in
    let d : Done = said st (job_at st j) drawn in
    let word-is : c.word_of-word.result ≡ code (Some d) = c.word_of-word.ensures.value ∙ ap (λ (x : Done). code (Some x)) c.requires.said in
    let fits : FitsWord d = subst FitsWord c.requires.said c.word_of-word.ensures.fits in
    let P : ℕ → Type 0 = λ x. Allows (Shows st t.key.seats) n c.args.seat.now.id me (j + 2) (λ _. x) (λ _. finishing (step n (j + 2) x 0 none) me x) in (
      c.requires.table,
      (let w = c.args.self.now.words_are in let lt = c.requires.inside in omega arith),
      subst P (sym word-is) (finishes st t.key.seats n c.args.seat.now.id me j drawn c.requires.works c.requires.carries c.requires.draws fits),
    )
