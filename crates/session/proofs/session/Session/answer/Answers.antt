use Rattle.std.proofs.Common.{subst}
use Rattle.session.specs.Standing.{Stands}
use Rattle.session.proofs.StandingLemmas.{stands}
use Rattle.session.proofs.session.Session.answer.Goals as goal

pub returns-in-End-clause-stands : goal.returns-in-End-clause-stands
returns-in-End-clause-stands g c = subst Stands c.self.view_is (stands _ c.self.invariant.0)
