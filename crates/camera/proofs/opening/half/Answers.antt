use Rattle.std.proofs.Common.{arith}
use Rattle.std.proofs.lemmas.Int.{ints}
use Rattle.camera.proofs.OpeningLemmas.{half_high}
use Rattle.camera.proofs.opening.half.Goals as goal

pub returns-clause-high : goal.returns-clause-high
returns-clause-high c =
    half_high c.left.result c.right.result c.abs.result c.max.result (omega (arith, ints, c.left.ensures.value, c.requires.c, c.requires.c_high)) c.left.ensures.bound.high c.right.ensures.low c.right.ensures.high c.abs.ensures.value c.max.ensures.value
