use Rattle.std.proofs.Common.{rules}
use Rattle.std.proofs.lemmas.Int.{to_z-of_z}
use Rattle.scan_lang.specs.Config.{fields_of}
use Rattle.scan_lang.proofs.config.read_fields.Goals as goal

pub returns : goal.returns
unfolding fields_of
returns c =
    rw (← c.in_ok-integer.ensures, ← c.in_ok-read_camera_fields.ensures, ← c.in_ok-integer-2.ensures, ← c.in_ok-integer-3.ensures, ← c.in_ok-integer-4.ensures, ← c.in_ok-integer-5.ensures) (search (rules, to_z-of_z))
