use Rattle.camera.proofs.KeyLemmas.{key_is}
use Rattle.camera.proofs.grid.key.Goals as goal

pub returns : goal.returns
returns c =
    key_is c.args.x c.args.y c.args.z c.in_ok-key_axis.field-0 c.in_ok-key_axis-2.field-0 c.in_ok-key_axis-3.field-0 c.key_axis.result c.key_axis-2.result c.key_axis-3.result c.ranges.x c.ranges.y c.ranges.z
    c.in_ok-key_axis.was c.in_ok-key_axis-2.was c.in_ok-key_axis-3.was c.key_axis.ensures c.key_axis-2.ensures c.key_axis-3.ensures
