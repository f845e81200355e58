use Rattle.std.proofs.Common.{[], ◌∷◌}
use Rattle.scan_io.proofs.ReadingLemmas.{loses_kept, loses_more, loses_nothing}
use Rattle.scan_io.proofs.feed.Feed.next.Goals as goal

pub returns-then-not-is_spent-clause-front : goal.returns-then-not-is_spent-clause-front
returns-then-not-is_spent-clause-front g c = loses_kept c.args.self.now c.take.new.self (c.take.result ∷ []) _ c.take.ensures.first

pub returns-then-branch-clause-front : goal.returns-then-branch-clause-front
returns-then-branch-clause-front g c = loses_more
    (loses_nothing c.args.self.now c.refill.new.self _ _ c.in_ok-refill.ensures.coming c.in_ok-refill.ensures.telling)
    (loses_kept c.refill.new.self c.take-then-branch.new.self (c.take-then-branch.result ∷ []) _ c.take-then-branch.ensures.first)
