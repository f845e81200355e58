use Rattle.std.proofs.lemmas.Bool.{false≢true}
use Rattle.scan_lang.proofs.ConfigLemmas.{is_object, is_not_read}
use Rattle.scan_lang.proofs.config.read_object.Goals as goal

pub returns-then-is_object : goal.returns-then-is_object
returns-then-is_object c = let e = c.in-Ok.ensures.ok in let e2 = c.if-is_object.ensures in is_object c.args.line.now _ c.in-Ok.ensures.ok.0 c.in-Ok.ensures.ok.1 (cc c.if-is_object.ensures)

pub returns-else-is_memory : goal.returns-else-is_memory
returns-else-is_memory c = is_not_read c.args.line.now (c.in-Err.ensures.err (λ m. false≢true (c.if-is_memory.ensures.1 m)))
