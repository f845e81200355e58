-- What remains of a walk over a row.
use Rattle.std.specs.Prelude.{List}
use Rattle.voxel_block.specs.declared.key.BlockKey.{BlockKey}

-- a contract sees a walk as the list of its remaining keys
abbrev pub remaining_keys : List BlockKey → List BlockKey
remaining_keys keys = keys
