use Rattle.std.proofs.Common.{rules}
use Rattle.std.specs.Int.{w32}
use Rattle.std.proofs.lemmas.Int.{to_z-of_z}
use Rattle.std.proofs.lemmas.Result.{on_ok_weaker}
use Rattle.crossing_export.proofs.PlyLemmas.{line_written}
use Rattle.crossing_export.proofs.ply.write_point.Goals as goal

pub returns-clause-written : goal.returns-clause-written
returns-clause-written c =
    let p = c.args.point.now in
    on_ok_weaker c.write_number-3.result
    (λ e. line_written p c.args.bytes.now.items c.write_number.new.bytes.items c.write_number-2.new.bytes.items c.write_number-3.new.bytes.items _ _ _ (to_z-of_z w32 p.x (search rules)) (to_z-of_z w32 p.y (search rules)) (to_z-of_z w32 p.z (search rules))
    c.in_ok-write_number.ensures.written c.in_ok-write_number-2.ensures.written e) c.write_number-3.ensures.written
