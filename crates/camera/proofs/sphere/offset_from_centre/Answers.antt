use Rattle.camera.proofs.SphereLemmas.{offset_is, offset_within}
use Rattle.camera.proofs.sphere.offset_from_centre.Goals as goal

pub returns-clause-value : goal.returns-clause-value
returns-clause-value c = offset_is c.args.camera.now c.args.depth c.requires.camera c.requires.depth

pub returns-clause-bound : goal.returns-clause-bound
returns-clause-bound c = offset_within c.args.camera.now c.args.depth c.requires.camera c.requires.depth
