use Rattle.std.proofs.Common.{rules, ◌≡◌, ℕ, ◌<◌, length, sym, ap, ◌∙◌, subst}
use Rattle.std.specs.Prelude.{vec_len}
use Rattle.std.proofs.lemmas.Option.{slice_get_within}
use Rattle.fusion_core.specs.declared.board.event.Event.TheVariants.{Finish}
use Rattle.fusion_core.specs.declared.board.hand.Hand.TheVariants.{Works}
use Rattle.fusion_core.specs.BoardStates.{BoardState, IsWhole, after_event}
use Rattle.fusion_core.specs.CoreView.{core_view}
use Rattle.fusion_core.proofs.HandLemmas.{can_do, done_is, finish_here}
use Rattle.fusion_core.proofs.StepLemmas.{step_keeps}
use Rattle.fusion_core.proofs.board.machine.Core.finish.Goals as goal

pub do_job-said-requires-clause-can : goal.do_job-said-requires-clause-can
do_job-said-requires-clause-can c =
    let i = c.self.inside in let m : BoardState = core_view i in
    (m.start, can_do m _ c.self.view_is c.args.w c.in-Some.j c.in-Some.drawn c.in-Some.ensures.may i.cell_count c.of-tools.result c.job-job.result c.self.invariant.0 (c.of-tools.ensures ∙ c.requires.fits) c.self.invariant.1 c.job-job.ensures)

pub index_mut-requires : goal.index_mut-requires
index_mut-requires c =
    let i = c.self.inside in let m : BoardState = core_view i in let j : ℕ = c.in-Some.j in
    let lt : j < length m.start.jobs = subst (λ (z : BoardState). j < length z.start.jobs) (sym c.self.view_is) c.in-Some.ensures.inside in
    let n : vec_len i.done ≡ length i.done.items = search rules in
    subst (λ (k : ℕ). j < k) (sym (n ∙ c.self.invariant.0.done_count)) lt

pub index_mut-requires-2 : goal.index_mut-requires-2
index_mut-requires-2 c =
    let i = c.self.inside in let w : ℕ = c.args.w in
    let may = finish_here (core_view i) _ c.self.view_is w c.in-Some.j c.in-Some.drawn c.in-Some.ensures.may in
    let n : vec_len i.hands ≡ length i.hands.items = search rules in
    subst (λ (k : ℕ). w < k) (sym n) (slice_get_within i.hands.items w (Works c.in-Some.j c.in-Some.drawn) may.hand)

pub invariant_of-self : goal.invariant_of-self
invariant_of-self c =
    let i = c.self.inside in let m : BoardState = core_view i in let w : ℕ = c.args.w in
    let may = finish_here m _ c.self.view_is w c.in-Some.j c.in-Some.drawn c.in-Some.ensures.may in
    let is = done_is m _ c.self.view_is w c.in-Some.j c.in-Some.drawn c.in-Some.ensures.may i.cell_count c.of-tools.result c.job-job.result c.self.invariant.0 (c.of-tools.ensures ∙ c.requires.fits) c.self.invariant.1 c.job-job.ensures c.do_job-said.new.slots.items c.do_job-said.result c.do_job-said.ensures.done in
    (subst IsWhole (sym is) (step_keeps m (Finish w) c.self.invariant.0 may.may), c.self.invariant.1)

pub returns-clause-ok : goal.returns-clause-ok
returns-clause-ok c =
    let i = c.self.inside in
    done_is (core_view i) _ c.self.view_is c.args.w c.in-Some.j c.in-Some.drawn c.in-Some.ensures.may i.cell_count c.of-tools.result c.job-job.result c.self.invariant.0 (c.of-tools.ensures ∙ c.requires.fits) c.self.invariant.1 c.job-job.ensures c.do_job-said.new.slots.items c.do_job-said.result c.do_job-said.ensures.done
    ∙ ap (λ (z : BoardState). after_event z (Finish c.args.w)) c.self.view_is
