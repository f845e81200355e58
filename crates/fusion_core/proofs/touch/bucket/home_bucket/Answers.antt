use Rattle.std.proofs.Common.{◌≡◌, ℕ, sym, ap, ◌∙◌}
use Rattle.std.specs.Prelude.{None}
use Rattle.voxel_block.specs.Words.{key_of}
use Rattle.spatial_hash.specs.Hash.{home, home_in}
use Rattle.spatial_hash.proofs.Homes.{home_is}
use Rattle.fusion_core.proofs.touch.bucket.home_bucket.Goals as goal

home_none : (buckets w : ℕ) → key_of w ≡ None → home buckets w ≡ 0
unfolding home
home_none buckets w is = ap (home_in buckets) is

pub returns-in-Some-clause-value : goal.returns-in-Some-clause-value
returns-in-Some-clause-value c = c.bucket.ensures.value ∙ sym (home_is c.args.buckets c.args.word c.in-Some.key (sym c.of_word.ensures.value ∙ c.in-Some.is))

pub returns-in-None-clause-value : goal.returns-in-None-clause-value
returns-in-None-clause-value c = sym (home_none c.args.buckets c.args.word (sym c.of_word.ensures.value ∙ c.in-None.is))
