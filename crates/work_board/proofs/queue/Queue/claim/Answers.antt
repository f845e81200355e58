use Rattle.std.proofs.Common.{ℕ, ◌+◌, ◌%◌, ◌^◌, ◌≡◌, cond, arith, subst, sym, ap, ◌∙◌}
use mathlib.Core.Option.{none}
use Rattle.atomic_table.specs.Table.{Allows, step}
use Rattle.fusion_core.specs.Jobs.{Start}
use Rattle.work_board.specs.Events.{claim_of}
use Rattle.work_board.specs.Rule.{Shows, start_in}
use Rattle.work_board.specs.Steps.{Held, claiming}
use Rattle.work_board.proofs.Allowed.{claims}
use Rattle.work_board.proofs.queue.Queue.claim.Goals as goal

pub fetch_add-requires : goal.fetch_add-requires
fetch_add-requires c =
    let t = c.args.self.now.table.shared in let st : Start = start_in t.key in let me : Held = c.args.seat.now.me in
    let P : ℕ → Type 0 = λ k. Allows (Shows st t.key.seats) t.table_id.slots c.args.seat.now.id me 0 (λ y. (y + k) % 2 ^ 64) (claiming (step t.table_id.slots 0 k 0 none) me) in
    let step-is : c.step_of-step.result ≡ claim_of me = c.step_of-step.ensures ∙ ap (λ b. cond b 0 1) c.requires.marked in (
      c.requires.table,
      (let w = c.args.self.now.words_are in omega arith),
      subst P (sym step-is) (claims st t.key.seats t.table_id.slots c.args.seat.now.id me c.requires.rests),
    )
