use Rattle.allocator.proofs.worker.Worker.make.Goals as goal

pub returns-clause-noted : goal.returns-clause-noted
returns-clause-noted c = λ b is. absurd (c.in_ok-make.ensures b is)
