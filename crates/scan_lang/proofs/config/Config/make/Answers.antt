use Rattle.std.proofs.Common.{sym, subst}
use Rattle.std.proofs.lemmas.Result.{err_from_is_err_and}
use Rattle.camera.specs.Cameras.{IsCamera}
use Rattle.scan_lang.proofs.ConfigLemmas.{limits_bad, made_is_config}
use Rattle.scan_lang.proofs.config.Config.make.Goals as goal

pub returns-in_err-check_limits-clause-value : goal.returns-in_err-check_limits-clause-value
returns-in_err-check_limits-clause-value c =
    let p = err_from_is_err_and c.from_residual-in_err-check_limits.result c.from_residual-in_err-check_limits.ensures.1 in
    rw (p.1, p.2) (sym (limits_bad c.args.fields _ _ (sym c.in_ok-check_version.ensures) (sym c.in_ok-camera.ensures.value) (sym c.in_err-check_limits.ensures)))

pub made_from-requires-clause-known : goal.made_from-requires-clause-known
made_from-requires-clause-known c = made_is_config c.args.fields (sym c.in_ok-check_version.ensures) (subst IsCamera c.in_ok-camera.ensures.camera.0 c.in_ok-camera.ensures.camera.1) (sym c.in_ok-check_limits.ensures)
