use Rattle.chunk_store.proofs.Stores.{store_either, stored_with}
use Rattle.chunk_store.proofs.store.ChunkStore.open.Goals as goal

pub invariant_of-self : goal.invariant_of-self
invariant_of-self c = store_either c.self.inside.rows.entries c.args.chunk c.self.inside.count c.open.new.rows.entries c.self.invariant c.open.result c.open.ensures.opened c.open.ensures.had c.open.ensures.err

pub returns-clause-ok : goal.returns-clause-ok
returns-clause-ok c = stored_with c.self.inside.rows.entries c.args.chunk c.self.inside.count c.open.new.rows.entries c.self.invariant c.args.self.now c.self.view_is c.open.result c.open.ensures.opened c.open.ensures.had
