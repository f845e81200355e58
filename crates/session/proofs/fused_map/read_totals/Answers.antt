use Rattle.session.proofs.StandingLemmas.{stands}
use Rattle.session.proofs.fused_map.read_totals.Goals as goal

pub returns-clause-stands : goal.returns-clause-stands
returns-clause-stands c = stands _ c.requires
