use Rattle.std.proofs.Common.{sym, ◌∙◌}
use Rattle.std.specs.FinMap.{get}
use Rattle.crossing_export.proofs.PlaceLemmas.{value_here, value_read}
use Rattle.crossing_export.proofs.around.Around.value.Goals as goal

pub returns : goal.returns
returns c =
    let a = c.args.self.now in
    λ m h. value_read c.known_value.result (get m a.key) a.here.now c.args.i c.get.result c.known_value.ensures c.get.ensures.value h.here ∙ sym (value_here m a.key c.args.i c.requires)
