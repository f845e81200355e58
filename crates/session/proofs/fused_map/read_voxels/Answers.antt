use Rattle.session.proofs.StandingLemmas.{stands}
use Rattle.session.proofs.fused_map.read_voxels.Goals as goal

pub returns-in_err-known-clause-stands : goal.returns-in_err-known-clause-stands
returns-in_err-known-clause-stands c = stands _ c.requires

pub returns-clause-stands : goal.returns-clause-stands
returns-clause-stands c = stands _ c.requires
