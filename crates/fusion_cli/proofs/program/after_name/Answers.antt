use Rattle.std.proofs.Common.{◌∙◌, ap, drop, refl}
use Rattle.std.proofs.lemmas.Iterator.{items_from_collect}
use Rattle.std.proofs.lemmas.Iterator.Adapters.{YieldsList-from_vec}
use Rattle.std.specs.Vec.Iter.{into_iter_items}
use Rattle.fusion_cli.proofs.program.after_name.Goals as goal

pub returns-in-Ok-clause-words : goal.returns-in-Ok-clause-words
returns-in-Ok-clause-words c =
    let all = rw c.in-Ok.is at (items_from_collect c.collect-all.result c.collect-all.ensures.ran (YieldsList-from_vec (into_iter_items c.args.args) refl c.args.args.rest.ok.0)) in
    c.drop_first.ensures ∙ ap (drop 1) all
