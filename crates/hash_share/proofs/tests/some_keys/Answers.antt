use Rattle.std.proofs.Common.{refl}
use Rattle.hash_share.proofs.tests.some_keys.Goals as goal

pub make-requires-clause-power : goal.make-requires-clause-power
make-requires-clause-power c = (3, refl)
