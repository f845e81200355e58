use Rattle.std.proofs.Common.{◌≡◌, arith}
use Rattle.scan_io.specs.Reading.{saturated}
use Rattle.scan_lang.proofs.ReaderLemmas.{frame_read}
use Rattle.scan_lang.proofs.reader.read_frame.Goals as goal

pub returns : goal.returns
returns g c = λ left.
    let small : saturated c.read_depths.new.feed.given ≡ c.read_depths.new.feed.given = omega arith in
    frame_read left c.args.rows c.in_ok-depths.depths _ _ small c.in_ok-depths.ensures
