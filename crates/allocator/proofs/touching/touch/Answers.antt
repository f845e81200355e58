use Rattle.std.proofs.Common.{ap, sym, ◌∙◌}
use Rattle.spatial_hash.specs.Table.{Table}
use Rattle.allocator.proofs.Adding.{touch_adds, touch_has, touch_spent}
use Rattle.allocator.proofs.touching.touch.Goals as goal

pub returns-clause-adds : goal.returns-clause-adds
returns-clause-adds c = touch_adds c.args.key c.args.seat.now.knows c.touch.new.seat.knows c.touch.result c.touch.ensures.named c.touch.ensures.touched

pub returns-clause-all : goal.returns-clause-all
returns-clause-all c = λ none. touch_has c.args.key c.args.seat.now.knows c.touch.new.seat.knows c.touch.result c.touch.ensures.named c.touch.ensures.touched (sym c.drawn_by.ensures ∙ none)

pub returns-clause-spent : goal.returns-clause-spent
returns-clause-spent c = rw (c.drawn_by.ensures) (touch_spent c.args.key c.args.share.now.start.nodes c.args.seat.now.knows c.touch.new.seat.knows c.touch.result (ap (λ (t : Table). t.nodes) c.requires.1) c.touch.ensures.touched)
