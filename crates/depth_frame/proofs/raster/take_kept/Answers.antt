use Rattle.std.proofs.Common.{◌≡◌, ◌+◌, ◌-◌, ◌*◌, ◌≤◌, length, arith}
use Rattle.std.specs.Prelude.{vec_len}
use Rattle.depth_frame.specs.Pgm.{sample_len}
use Rattle.depth_frame.specs.Runs.{raster_further}
use Rattle.scan_io.specs.Reading.{stream}
use Rattle.scan_io.proofs.ReadingLemmas.{came_none, came_given}
use Rattle.depth_frame.proofs.raster.take_kept.Goals as goal

pub returns-clause-came : goal.returns-clause-came
returns-clause-came c at faults left =
    let feed = c.args.feed.now in
    let old = c.args.raw.now in
    let new = c.push_samples-used.new.raw in
    let used = c.push_samples-used.result in
    let count : c.args.count - vec_len old ≡ (vec_len new - vec_len old) + (c.args.count - vec_len new) = omega (arith, c.requires.len, c.push_samples-used.ensures.least, c.push_samples-used.ensures.greatest) in
    let run = rw c.kept.ensures at c.push_samples-used.ensures.run in
    let fits : used ≤ length feed.bytes = rw c.kept.ensures at c.push_samples-used.ensures.used in
    came_given (raster_further new.items c.args.maxval (c.args.count - vec_len new) (at + (vec_len new - vec_len old) * sample_len c.args.maxval)) used feed c.skip.new.self left faults
    (came_none (raster_further old.items c.args.maxval (c.args.count - vec_len old) at) (stream feed left faults)) fits c.skip.ensures.bytes c.skip.ensures.given
    (λ t. rw count (run.again (c.args.count - vec_len new) at t))

pub returns-clause-all : goal.returns-clause-all
returns-clause-all c = λ less. rw c.skip.ensures.bytes ((rw c.kept.ensures at c.push_samples-used.ensures.all) (omega arith))
