use Rattle.depth_frame.proofs.FrontLemmas.{short_is_at_end, cut_is_short, cut_refusal_is_short}
use Rattle.depth_frame.proofs.pgm.short_is_at_the_end.Goals as goal

pub returns-clause-end : goal.returns-clause-end
returns-clause-end c = short_is_at_end

pub returns-clause-cut : goal.returns-clause-cut
returns-clause-cut c = cut_is_short

pub returns-clause-cut_refused : goal.returns-clause-cut_refused
returns-clause-cut_refused c = cut_refusal_is_short
