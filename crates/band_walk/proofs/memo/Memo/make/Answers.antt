use Rattle.band_walk.proofs.MemoLemmas.{none_noted}
use Rattle.band_walk.proofs.memo.Memo.make.Goals as goal

pub returns : goal.returns
returns c = none_noted c.in_ok-words.words.items 32768 (c.in_ok-words.ensures.items_if_clones_equal (λ y e. e))
