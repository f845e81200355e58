use Rattle.std.proofs.Common.{◌||◌, sym, ap, ◌∙◌}
use Rattle.std.specs.FinMap.{contains_key}
use Rattle.streamer.proofs.Blocks.{has-blocks}
use Rattle.streamer.proofs.rest.Rest.contains.Goals as goal

pub returns-then-is_resident-clause-blocks : goal.returns-then-is_resident-clause-blocks
returns-then-is_resident-clause-blocks c =
    let there = sym c.is_resident.ensures.value ∙ c.if-is_resident.true in
    c.if-is_resident.true ∙ sym (has-blocks c.args.self.now c.args.key ∙ ap (λ b. b || contains_key c.args.self.now.store.contents c.args.key) there)

pub returns-else-is_resident-clause-blocks : goal.returns-else-is_resident-clause-blocks
returns-else-is_resident-clause-blocks c =
    let out = sym c.is_resident.ensures.value ∙ c.if-is_resident.false in
    c.is_stored.ensures.value ∙ sym (has-blocks c.args.self.now c.args.key ∙ ap (λ b. b || contains_key c.args.self.now.store.contents c.args.key) out)
