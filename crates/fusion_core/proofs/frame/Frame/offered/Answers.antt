use Rattle.std.proofs.Common.{sym, ap, ◌∙◌}
use Rattle.std.specs.Prelude.{Err}
use Rattle.std.proofs.lemmas.Result.{err_from_is_err_and}
use Rattle.fusion_core.specs.declared.refusal.Refusal.{Refusal}
use Rattle.fusion_core.specs.declared.refusal.Refusal.TheVariants.{Size}
use Rattle.fusion_core.proofs.JudgeLemmas.{is_frame, offered_ok, offered_pose, offered_size}
use Rattle.fusion_core.proofs.frame.Frame.offered.Goals as goal

pub returns-then-not-has_size-clause-value : goal.returns-then-not-has_size-clause-value
returns-then-not-has_size-clause-value c = (λ i. Err (Size (c.width.ensures i) (c.height.ensures i))) ∙ sym (offered_size c.args.settings.now c.args.rows.now c.args.depths (sym c.has_size.ensures.value ∙ c.if-not-has_size.true))

pub returns-in_err-pose-clause-value : goal.returns-in_err-pose-clause-value
returns-in_err-pose-clause-value c =
    let p = err_from_is_err_and c.from_residual.result c.from_residual.ensures.1 in
    p.1 ∙ ap (λ (e : Refusal). Err e) p.2 ∙ sym (offered_pose c.args.settings.now c.args.rows.now c.args.depths c.in_err-pose.field-0.0 (sym c.has_size.ensures.value ∙ c.if-not-has_size.false) (sym c.accept.ensures.value ∙ c.in_err-pose.was))

pub invariant_of-result : goal.invariant_of-result
invariant_of-result c = is_frame c.args.settings.now c.in_ok-pose.pose c.args.depths c.has_size.ensures.camera c.in_ok-pose.ensures.ok c.requires (sym c.has_size.ensures.value ∙ c.if-not-has_size.false)

pub returns-clause-value : goal.returns-clause-value
returns-clause-value c = sym (offered_ok c.args.settings.now c.args.rows.now c.args.depths c.in_ok-pose.pose (sym c.has_size.ensures.value ∙ c.if-not-has_size.false) (sym c.accept.ensures.value ∙ c.in_ok-pose.was))

pub returns-clause-frame : goal.returns-clause-frame
returns-clause-frame c = invariant_of-result c
