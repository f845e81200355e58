use Rattle.std.proofs.Common.{◌+◌, ◌*◌, refl, leb}
use Rattle.std.proofs.lemmas.Bool.{le-leb, lt-leb}
use Rattle.std.proofs.lemmas.Result.{err_from_is_err_and}
use Rattle.scan_io.proofs.ReadingLemmas.{came_none, came_same, came_step, came_err, came_tested}
use Rattle.depth_frame.proofs.PgmLemmas.{sample_high, sample_split, sample_narrow, sample_wide}
use Rattle.depth_frame.specs.Pgm.{one_sample, sample_judged, fault}
use Rattle.depth_frame.specs.declared.error.PgmKind.TheVariants.{Sample}
use Rattle.depth_frame.specs.Errors.{pgm_errors}
use Rattle.depth_frame.specs.declared.error.PgmError.TheVariants.{Bad}
use Rattle.depth_frame.proofs.raster.read_sample.Goals as goal

pub returns : goal.returns
returns g c =
    came_tested pgm_errors (λ v. v) (leb (256 * c.in_ok-high.high + c.in_ok-low.low) c.args.maxval) (256 * c.in_ok-high.high + c.in_ok-low.low) (fault Sample c.args.at) (Bad (fault Sample c.args.at)) _ refl
    (came_step (λ b. sample_judged c.args.maxval c.args.at (256 * c.in_ok-high.high + b))
    (came_step (sample_high c.args.maxval c.args.at) (came_none (one_sample c.args.maxval c.args.at) _) c.in_ok-high.ensures (sample_split c.args.maxval c.args.at))
    c.in_ok-low.ensures (sample_wide c.args.maxval c.args.at c.in_ok-high.high (le-leb 256 c.args.maxval c.if-maxval-lt256.false)))
    c.judge_sample-2.ensures (λ t. refl)

pub returns-then-maxval-lt256 : goal.returns-then-maxval-lt256
returns-then-maxval-lt256 g c =
    came_tested pgm_errors (λ v. v) (leb c.in_ok-high.high c.args.maxval) c.in_ok-high.high (fault Sample c.args.at) (Bad (fault Sample c.args.at)) _ refl
    (came_same (sample_judged c.args.maxval c.args.at c.in_ok-high.high)
    (came_step (sample_high c.args.maxval c.args.at) (came_none (one_sample c.args.maxval c.args.at) _) c.in_ok-high.ensures (sample_split c.args.maxval c.args.at))
    (sample_narrow c.args.maxval c.args.at c.in_ok-high.high (lt-leb 256 c.args.maxval c.if-maxval-lt256.true)))
    c.judge_sample.ensures (λ t. refl)

pub returns-in_err-low : goal.returns-in_err-low
returns-in_err-low g c =
    let p = err_from_is_err_and c.from_residual-in_err-low.result c.from_residual-in_err-low.ensures.1 in
    rw (p.1, p.2) (came_err (λ v. v) (λ b. sample_judged c.args.maxval c.args.at (256 * c.in_ok-high.high + b))
    (came_step (sample_high c.args.maxval c.args.at) (came_none (one_sample c.args.maxval c.args.at) _) c.in_ok-high.ensures (sample_split c.args.maxval c.args.at))
    c.in_err-low.ensures (sample_wide c.args.maxval c.args.at c.in_ok-high.high (le-leb 256 c.args.maxval c.if-maxval-lt256.false)))
