use Rattle.std.proofs.Common.{◌≡◌, ◌<◌, ◌^◌, ℕ, get_or, take, arith}
use Rattle.std.proofs.lemmas.List.{take_all}
use Rattle.depth_frame.specs.DepthMaps.{depth_map_of}
use Rattle.depth_frame.specs.Pgm.{pgm_text}
use Rattle.depth_frame.proofs.WrittenLemmas.{written_is_read}
use Rattle.depth_frame.proofs.bytes.file_bytes.Goals as goal

pub returns-clause-again : goal.returns-clause-again
returns-clause-again c =
    let small : (i : ℕ) → get_or c.args.samples.now i 0 < 2 ^ 16 = λ i. omega (arith, c.type_inv.samples i) in
    let all : take c.loop-sample.sample-index c.args.samples.now ≡ c.args.samples.now = take_all c.loop-sample.sample-index c.args.samples.now c.loop-sample-test.false in
    let is : c.loop-sample.bytes.items ≡ pgm_text (depth_map_of c.args.width c.args.height c.args.samples.now) = rw all at c.loop-sample.invariant in
    λ sides start rest. rw is (written_is_read start (depth_map_of c.args.width c.args.height c.args.samples.now) rest sides c.requires small)
