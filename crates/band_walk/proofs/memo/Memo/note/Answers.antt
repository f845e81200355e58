use Rattle.std.proofs.Common.{◌≡◌, ◌⊎◌, refl, subst, arith}
use Rattle.std.specs.Prelude.{Some}
use Rattle.voxel_block.specs.Words.{key_of}
use Rattle.band_walk.specs.Memos.{IsNoted}
use Rattle.band_walk.proofs.MemoLemmas.{noted_more}
use Rattle.band_walk.proofs.memo.Memo.note.Goals as goal

pub returns : goal.returns
returns c = λ b noted.
    let words = c.self.inside.words.items in
    subst (λ m. IsNoted m b ⊎ (key_of c.args.word ≡ Some b)) c.self.view_is
    (noted_more words _ c.slot.result c.args.word (omega (arith, c.slot.ensures, c.self.invariant)) refl b noted)
