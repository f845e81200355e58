use Rattle.std.proofs.Common.{◌≡◌, sym, ap, ◌∙◌}
use Rattle.std.specs.Prelude.{Ok, Some, is_some}
use Rattle.std.specs.Result.{is_ok}
use Rattle.std.specs.FinMap.{contains_key, get}
use Rattle.voxel_block.specs.Packing.{voxels_in}
use Rattle.streamer.specs.Places.{Places, blocks_of}
use Rattle.streamer.specs.Seen.{seen}
use Rattle.streamer.proofs.Ways.{Unpacks, unpacks}
use Rattle.streamer.proofs.rest.Rest.unpack.Goals as goal
use Rattle.streamer.proofs.rest.Rest.unpack.Goals.{After-is_ok}

form : (c : After-is_ok) → Unpacks (seen c.self.inside) c.args.key c.in-Some.packed.now
form c = unpacks (seen c.self.inside) c.args.key c.in-Some.packed.now c.self.invariant c.in-Some.ensures.value

read : (c : After-is_ok) → (c.unpack_into.result ≡ Ok c.args.key) × (c.unpack_into.new.out ≡ voxels_in c.in-Some.packed.now)
read c = c.unpack_into.ensures.back c.args.key (voxels_in c.in-Some.packed.now) (form c).key (form c).block (form c).weights (form c).form

pub returns-in-Some-clause-stored : goal.returns-in-Some-clause-stored
returns-in-Some-clause-stored c = c.is_ok.ensures.value ∙ ap is_ok (read c).0 ∙ ap is_some c.in-Some.ensures.value ∙ ap (λ (p : Places). contains_key p.store.contents c.args.key) c.self.view_is

pub returns-in-Some-clause-block : goal.returns-in-Some-clause-block
returns-in-Some-clause-block c = λ _. ap (λ p. get (blocks_of p) c.args.key) (sym c.self.view_is) ∙ (form c).told ∙ ap Some (sym (read c).1)
