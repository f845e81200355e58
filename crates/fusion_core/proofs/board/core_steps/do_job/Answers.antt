use Rattle.std.proofs.Common.{rules, ◌≡◌, ◌≢◌, ℕ, ◌+◌, ◌<◌, List, sym, ap, ◌∙◌, subst, length}
use Rattle.std.specs.Prelude.{vec_len}
use Rattle.fusion_core.specs.declared.board.done.Done.TheVariants as done
use Rattle.fusion_core.specs.declared.board.job.Job.{Job}
use Rattle.fusion_core.specs.declared.board.slot.Slot.{Slot}
use Rattle.fusion_core.specs.Jobs.{Start, left, said, summary_at}
use Rattle.fusion_core.specs.BoardStates.{put}
use Rattle.fusion_core.specs.Machines.{CanDo}
use Rattle.fusion_core.proofs.JobLemmas.{fresh_finds, enter_finds, enter_taken, check_finds, check_leaves}
use Rattle.fusion_core.proofs.board.core_steps.do_job.Goals as goal

pub do_fresh-requires : goal.do_fresh-requires
do_fresh-requires c =
    let st : Start = c.requires.can.0 in let l : List Slot = c.args.slots.now.items in
    let can = subst (λ (j : Job). CanDo st c.args.tools.now c.args.cells l j c.args.drawn) c.in-Fresh.is c.requires.can.1 in
    let n : vec_len c.args.slots.now ≡ length l = search rules in
    subst (λ (k : ℕ). c.number_of.result < k) (sym n) (subst (λ (k : ℕ). k < length l) (sym c.number_of.ensures) (fresh_finds st c.args.tools.now c.args.cells l c.in-Fresh.key c.args.drawn can).0)

pub do_enter-requires-clause-inside : goal.do_enter-requires-clause-inside
do_enter-requires-clause-inside c =
    let st : Start = c.requires.can.0 in let l : List Slot = c.args.slots.now.items in
    let can = subst (λ (j : Job). CanDo st c.args.tools.now c.args.cells l j c.args.drawn) c.in-Enter.is c.requires.can.1 in
    let n : vec_len c.args.slots.now ≡ length l = search rules in
    let f = (enter_finds st c.args.tools.now c.args.cells l c.in-Enter.dock c.args.drawn can).0 in
    subst (λ (k : ℕ). (c.number_of-in-Enter.result < k) × (c.args.cells + c.in-Enter.dock < k)) (sym n) (subst (λ (k : ℕ). k < length l) (sym c.number_of-in-Enter.ensures) f.0, f.1)

pub do_enter-requires-clause-apart : goal.do_enter-requires-clause-apart
do_enter-requires-clause-apart c =
    let st : Start = c.requires.can.0 in let l : List Slot = c.args.slots.now.items in
    let can = subst (λ (j : Job). CanDo st c.args.tools.now c.args.cells l j c.args.drawn) c.in-Enter.is c.requires.can.1 in
    subst (λ (k : ℕ). c.args.cells + c.in-Enter.dock ≢ k) (sym c.number_of-in-Enter.ensures) (enter_finds st c.args.tools.now c.args.cells l c.in-Enter.dock c.args.drawn can).1

pub do_enter-requires-clause-taken : goal.do_enter-requires-clause-taken
do_enter-requires-clause-taken c =
    let st : Start = c.requires.can.0 in let l : List Slot = c.args.slots.now.items in
    let can = subst (λ (j : Job). CanDo st c.args.tools.now c.args.cells l j c.args.drawn) c.in-Enter.is c.requires.can.1 in
    enter_taken st c.args.tools.now c.args.cells l c.in-Enter.dock c.args.drawn can

pub returns-in-Check-clause-done : goal.returns-in-Check-clause-done
returns-in-Check-clause-done c = λ st can.
    let l : List Slot = c.args.slots.now.items in
    let can' = subst (λ (j : Job). CanDo st c.args.tools.now c.args.cells l j c.args.drawn) c.in-Check.is can in
    let f = check_finds st c.args.tools.now c.args.cells l c.in-Check.cell c.args.drawn can' in
    let P : Job → Type 0 = λ j. (l ≡ put l (left st j c.args.drawn)) × (c.do_check.result ≡ said st j c.args.drawn) in
    subst P (sym c.in-Check.is) (check_leaves st c.args.tools.now c.args.cells l c.in-Check.cell c.args.drawn can', c.do_check.ensures ∙ ap (λ (s : Slot). done.Looked (summary_at s)) f.1)
