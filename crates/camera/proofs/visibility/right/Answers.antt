use Rattle.std.proofs.Common.{◌∙◌}
use Rattle.std.proofs.lemmas.Int.{to_z-of_z}
use mir.Syntax.{w64}
use Rattle.camera.proofs.VisibilityLemmas.{right_is, right_within}
use Rattle.camera.proofs.visibility.right.Goals as goal

pub returns-clause-value : goal.returns-clause-value
returns-clause-value c = to_z-of_z w64 c.max.result (record { sfits = c.max.type_inv }) ∙ right_is c.args.size c.args.c c.max.result c.requires.size c.requires.c c.max.ensures.value

pub returns-clause-bound : goal.returns-clause-bound
returns-clause-bound c = right_within c.args.size c.args.c _ c.requires.size c.requires.c (returns-clause-value c)
