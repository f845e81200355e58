use Rattle.std.proofs.lemmas.Result.{IfOk-at_ok}
use Rattle.allocator.specs.Work.{HasWorked}
use Rattle.allocator.proofs.Dealing.{worked_cut}
use Rattle.allocator.proofs.crew.+workers.Goals as goal

pub put_together-requires : goal.put_together-requires
put_together-requires g t c =
    let s = c.args.share.now in
    let w = g.B.Rows.shown c.args.rows.now in
    let ours = IfOk-at_ok (λ d. HasWorked s w _ _ _ d.seat d.spent) c.in_ok-ours.was c.join-ours.ensures.first in
    let theirs = IfOk-at_ok (λ d. HasWorked s w _ _ _ d.seat d.spent) c.in_ok-theirs.was c.join-ours.ensures.second in
    (ours.belongs, theirs.belongs)

pub returns : goal.returns
returns g t c =
    let s = c.args.share.now in
    let w = g.B.Rows.shown c.args.rows.now in
    let cut = c.cut-low.ensures in
    let low = c.cut-low.result.0 in
    let high = c.cut-low.result.1 in
    let ours = IfOk-at_ok (λ d. HasWorked s w low.workers low.first low.count d.seat d.spent) c.in_ok-ours.was c.join-ours.ensures.first in
    let theirs = IfOk-at_ok (λ d. HasWorked s w high.workers high.first high.count d.seat d.spent) c.in_ok-theirs.was c.join-ours.ensures.second in
    let put = c.put_together.ensures in
    worked_cut s w c.args.part.workers c.args.part.first c.args.part.count low.workers low.first low.count high.workers high.first high.count _ _ c.put_together.result.seat _ _ c.put_together.result.spent
    cut.workers.0 cut.numbers.0 cut.workers.1 cut.numbers.1 cut.counts.0 put.belongs put.seat put.spent ours theirs
