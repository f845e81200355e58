use Rattle.std.proofs.Common.{◌∙◌, subst, sym}
use Rattle.std.specs.Prelude.{pos}
use Rattle.fixed_geom.specs.Vectors.{IsWithin}
use Rattle.fixed_geom.proofs.Sizes.{line_within}
use Rattle.fixed_geom.proofs.Wide.{same128}
use Rattle.fixed_geom.proofs.products.along_q30.Goals as goal

pub returns-clause-value : goal.returns-clause-value
returns-clause-value c = same128 c.dot.result c.dot.ensures.bound ∙ c.dot.ensures.value

pub returns-clause-bound : goal.returns-clause-bound
returns-clause-bound c = subst (IsWithin (pos 4722366482869645213696)) (sym (returns-clause-value c)) (line_within c.args.line c.args.offset c.requires.line c.requires.offset)
