use Rattle.std.proofs.Common.{rules}
use Rattle.chunk_store.specs.Rows.{place_of}
use Rattle.chunk_store.proofs.Words.{key_back}
use Rattle.chunk_store.proofs.place.place_of.Goals as goal

pub returns-clause-value : goal.returns-clause-value
unfolding place_of
returns-clause-value c = search rules

pub returns-clause-short : goal.returns-clause-short
returns-clause-short c = search (rules, key_back)
