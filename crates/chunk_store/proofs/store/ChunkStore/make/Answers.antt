use Rattle.chunk_store.proofs.Stores.{new_store, new_stored}
use Rattle.chunk_store.proofs.store.ChunkStore.make.Goals as goal

pub invariant_of-result : goal.invariant_of-result
invariant_of-result c = new_store c.new.result.entries c.new.ensures.empty

pub returns : goal.returns
returns c = new_stored c.new.result.entries c.new.ensures.empty
