use Rattle.std.proofs.Common.{◌∙◌, rules}
use Rattle.std.specs.Int.{w16, w32, w64}
use Rattle.std.proofs.lemmas.Int.{to_z-of_z}
use Rattle.std.proofs.lemmas.Result.{on_ok_weaker}
use Rattle.scan_lang.proofs.ReplyLemmas.{line_written}
use Rattle.scan_lang.proofs.reply.write_voxel.Goals as goal

pub returns : goal.returns
returns c =
    let v = c.args.voxel.now in
    on_ok_weaker c.write_number-5.result (λ e. line_written v c.args.bytes.now.items c.write_number.new.bytes.items c.write_number-2.new.bytes.items c.write_number-3.new.bytes.items c.write_number-4.new.bytes.items c.write_number-5.new.bytes.items
    _ _ _ _ _
    (to_z-of_z w64 c.from.result (search rules) ∙ c.from.ensures ∙ to_z-of_z w32 v.x (search rules))
    (to_z-of_z w64 c.from-2.result (search rules) ∙ c.from-2.ensures ∙ to_z-of_z w32 v.y (search rules))
    (to_z-of_z w64 c.from-3.result (search rules) ∙ c.from-3.ensures ∙ to_z-of_z w32 v.z (search rules))
    (to_z-of_z w64 c.from-4.result (search rules) ∙ c.from-4.ensures ∙ to_z-of_z w16 v.f (search rules))
    (to_z-of_z w64 c.from-5.result (search rules) ∙ c.from-5.ensures)
    c.in_ok-write_number.ensures c.in_ok-write_number-2.ensures c.in_ok-write_number-3.ensures c.in_ok-write_number-4.ensures e) c.write_number-5.ensures
