use Rattle.std.proofs.Common.{◌∙◌, ◌∷◌, [], ◌++◌, ap}
use Rattle.voxel_block.specs.Words.{key_with}
use Rattle.band_walk.proofs.MemoLemmas.{added_pushed}
use Rattle.band_walk.proofs.memo.Memo.add.Goals as goal

pub returns-clause-added : goal.returns-clause-added
returns-clause-added c =
    let b = c.args.block in
    let items = c.in_ok-push.ensures.items ∙ ap (λ k. c.args.keys.now.items ++ k ∷ []) c.key.ensures in
    added_pushed c.args.self.now c.note.new.self c.args.keys.now.items c.push.new.self.items c.word-word.result (key_with b.x b.y b.z) c.word-word.ensures items c.note.ensures
