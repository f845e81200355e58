use Rattle.std.proofs.Common.{sym, ap, ◌∙◌}
use Rattle.std.specs.FinMap.{insert}
use Rattle.fuse_kernel.specs.Updates.{updated}
use Rattle.streamer.specs.Places.{blocks_of}
use Rattle.fusion_core.specs.Frames.{view}
use Rattle.session.proofs.UpdatingLemmas.{heap_told}
use Rattle.session.proofs.updating.update_one.Goals as goal

pub returns-in-Some-clause-updated : goal.returns-in-Some-clause-updated
returns-in-Some-clause-updated c =
    let p = c.args.rest.now in
    let f = c.args.frame.now in
    let k = c.args.key in
    c.in-Some.ensures.blocks c.update.new.block c.requires.resident
    ∙ ap (insert (blocks_of p) k) (c.update.ensures ∙ ap (updated (view f) f.max_weight k) (sym (heap_told p k c.in-Some.block.now c.in-Some.ensures.value c.requires.resident)))
