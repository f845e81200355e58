use Rattle.std.proofs.Common.{ap, ◌∙◌}
use Rattle.std.specs.Prelude.{is_some}
use Rattle.std.specs.FinMap.{contains_key}
use Rattle.voxel_block.proofs.KeyLaws.{gone_here}
use Rattle.chunk_store.specs.Store.{Stored}
use Rattle.chunk_store.proofs.tests.put_back.Goals as goal

pub put_reserved-requires-clause-vacant : goal.put_reserved-requires-clause-vacant
put_reserved-requires-clause-vacant c = ap (λ (s : Stored). contains_key s.contents c.args.key) c.in-Some.ensures.store ∙ ap is_some (gone_here c.args.store.now.contents c.args.key)
