use Rattle.std.proofs.Common.{subst, ◌∙◌, rules}
use Rattle.std.proofs.lemmas.Int.{to_z-of_z}
use mir.Val.{SFits}
use mir.Syntax.{w16}
use Rattle.session.specs.Answers.{session_of}
use Rattle.session.specs.Collecting.{Collects}
use Rattle.session.proofs.CollectedLemmas.{collected_state, count_is, settled_collected}
use Rattle.session.proofs.StandingLemmas.{stands}
use Rattle.session.proofs.fused_map.collect_blocks.Goals as goal
use Rattle.session.proofs.fused_map.collect_blocks.Goals.{After-from}

collects : (c : After-from) → Collects c.args.config.now.empty_f c.args.map.now.rest c.collect_empty.new.rest
collects c =
    let fits : SFits w16 c.empty_f.result = search rules in
    subst (λ e. Collects e c.args.map.now.rest c.collect_empty.new.rest) (to_z-of_z w16 c.empty_f.result fits ∙ c.empty_f.ensures.value) c.collect_empty.ensures.collected

pub returns-clause-count : goal.returns-clause-count
returns-clause-count c = c.from.ensures ∙ count_is (session_of c.args.config.now c.args.map.now) c.requires c.collect_empty.new.rest c.collect_empty.result (collects c) c.collect_empty.ensures.count

pub returns-clause-state : goal.returns-clause-state
returns-clause-state c = collected_state (session_of c.args.config.now c.args.map.now) c.requires c.collect_empty.new.rest (collects c)

pub returns-clause-settled : goal.returns-clause-settled
returns-clause-settled c = settled_collected (session_of c.args.config.now c.args.map.now) c.requires c.collect_empty.new.rest (collects c)

pub returns-clause-stands : goal.returns-clause-stands
returns-clause-stands c = stands _ (returns-clause-settled c)
