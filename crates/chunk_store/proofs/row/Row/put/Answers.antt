use Rattle.std.proofs.Common.{◌≡◌, ◌<◌, length, rules, ap, ◌∙◌}
use Rattle.std.proofs.lemmas.List.{length-set}
use Rattle.chunk_store.specs.Rows.{held_at}
use Rattle.chunk_store.proofs.Counts.{one_more}
use Rattle.chunk_store.proofs.row.Row.put.Goals as goal

pub invariant_of-self : goal.invariant_of-self
invariant_of-self c =
    let n : length c.self.inside.places.items ≡ 512 = c.self.invariant.0 in
    let low : c.args.place < length c.self.inside.places.items = rw n c.requires.low in
    (search (rules, length-set, n), one_more c.self.inside.places.items c.args.place c.self.inside.held (c.args.key, c.args.packed) low (ap (λ r. held_at r c.args.place) c.self.view_is ∙ c.requires.vacant) c.self.invariant.1)
