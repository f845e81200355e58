use Rattle.std.proofs.Common.{◌≡◌, take}
use Rattle.chunk_store.specs.Store.{opened_with}
use Rattle.chunk_store.proofs.store.ChunkStore.reserve_out.Given as goal

-- the chunks of the keys so far are opened
abbrev pub invariant-loop-key : goal.invariant-loop-key
invariant-loop-key l = record { contents : l.self.contents ≡ l.fn.self.contents; opened : l.self.opened ≡ opened_with l.fn.self.opened (take l.key-index l.keys) }
