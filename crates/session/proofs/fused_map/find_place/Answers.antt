use Rattle.std.proofs.Common.{sym, ◌∙◌}
use Rattle.session.specs.Answers.{session_of}
use Rattle.session.proofs.StandingLemmas.{placed_nowhere, placed_store, stands}
use Rattle.session.proofs.fused_map.find_place.Goals as goal

pub returns-then-is_resident-clause-stands : goal.returns-then-is_resident-clause-stands
returns-then-is_resident-clause-stands c = stands _ c.requires

pub returns-then-is_stored-clause-stands : goal.returns-then-is_stored-clause-stands
returns-then-is_stored-clause-stands c = stands _ c.requires

pub returns-else-is_stored-clause-stands : goal.returns-else-is_stored-clause-stands
returns-else-is_stored-clause-stands c = stands _ c.requires

pub returns-then-is_stored-clause-place : goal.returns-then-is_stored-clause-place
returns-then-is_stored-clause-place c =
    placed_store (session_of c.args.config.now c.args.map.now) c.requires c.args.key (sym c.is_resident.ensures.value ∙ c.if-is_resident.false) (sym c.is_stored.ensures.value ∙ c.if-is_stored.true)

pub returns-else-is_stored-clause-place : goal.returns-else-is_stored-clause-place
returns-else-is_stored-clause-place c =
    placed_nowhere (session_of c.args.config.now c.args.map.now) c.requires c.args.key (sym c.is_resident.ensures.value ∙ c.if-is_resident.false) (sym c.is_stored.ensures.value ∙ c.if-is_stored.false)
