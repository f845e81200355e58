use Rattle.std.proofs.Common.{rules, ◌≡◌, ℕ, ◌<◌, length, sym, subst, true}
use Rattle.std.specs.Prelude.{vec_len}
use Rattle.std.proofs.lemmas.Option.{slice_get_within}
use Rattle.fusion_core.specs.declared.board.event.Event.TheVariants.{Claim}
use Rattle.fusion_core.specs.declared.board.hand.Hand.TheVariants.{Idle}
use Rattle.fusion_core.specs.BoardStates.{allowed}
use Rattle.fusion_core.specs.CoreView.{core_view}
use Rattle.fusion_core.proofs.HandLemmas.{claim_here, claim_idle}
use Rattle.fusion_core.proofs.StepLemmas.{step_keeps}
use Rattle.fusion_core.proofs.board.machine.Core.claim.Goals as goal

pub index_mut-requires : goal.index_mut-requires
index_mut-requires c =
    let i = c.self.inside in let w : ℕ = c.args.w in
    let may : allowed c.args.self.now (Claim w) ≡ true = search rules in
    let idle = claim_idle (core_view i) w (claim_here (core_view i) _ c.self.view_is w may) in
    let n : vec_len i.hands ≡ length i.hands.items = search rules in
    subst (λ (k : ℕ). w < k) (sym n) (slice_get_within i.hands.items w Idle idle)

pub invariant_of-self : goal.invariant_of-self
invariant_of-self c =
    let i = c.self.inside in let w : ℕ = c.args.w in
    let may : allowed c.args.self.now (Claim w) ≡ true = search rules in
    (step_keeps (core_view i) (Claim w) c.self.invariant.0 (claim_here (core_view i) _ c.self.view_is w may), c.self.invariant.1)
