use Rattle.std.proofs.Common.{refl}
use Rattle.hash_share.proofs.tests.two_seats_touch_one_key.Goals as goal

pub make-requires-clause-power : goal.make-requires-clause-power
make-requires-clause-power g c = (4, refl)
