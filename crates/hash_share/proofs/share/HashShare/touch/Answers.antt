use Rattle.std.proofs.Common.{◌≡◌, ℕ, ◌<◌, subst, sym, ap, ◌∙◌}
use Rattle.voxel_block.specs.Words.{word_of, key_of}
use Rattle.spatial_hash.specs.Hash.{bucket_of}
use Rattle.spatial_hash.specs.Table.{Table}
use Rattle.spatial_hash.proofs.Homes.{home_is}
use Rattle.hash_share.specs.Seats.{Share, Toucher, toucher_of}
use Rattle.hash_share.specs.Touching.{IsTouched}
use Rattle.hash_share.proofs.Finding.{finds_it}
use Rattle.hash_share.proofs.Roaming.{touched_part}
use Rattle.hash_share.proofs.share.HashShare.touch.Goals as goal

pub touch-requires-clause-bucket : goal.touch-requires-clause-bucket
touch-requires-clause-bucket c =
    let start : Table = c.self.inside.walks.table.shared.key.start.value in
    let mine : Table = c.seat.inside.hand.seat.me.0.start in
    let same : mine ≡ start = ap (λ (t : Toucher). t.knows.start) c.seat.view_is ∙ c.requires.1 ∙ sym (ap (λ (s : Share). s.start) c.self.view_is) in
    let b : c.self.inside.walks.buckets ≡ mine.buckets = c.self.inside.walks.sizes.0 ∙ sym (ap (λ (t : Table). t.buckets) same) in (
      c.bucket-bucket.ensures.value ∙ ap (λ (n : ℕ). bucket_of n c.args.key) b ∙ sym (home_is mine.buckets c.word.result c.args.key c.word.ensures.back),
      subst (λ (n : ℕ). c.bucket-bucket.result < n) b c.bucket-bucket.ensures.bound,
    )

pub returns-clause-findable : goal.returns-clause-findable
returns-clause-findable c =
    let old : Toucher = toucher_of c.seat.inside in
    let new : Toucher = toucher_of record { hand = c.touch.new.hand; part = c.seat.inside.part } in
    let is : IsTouched (word_of c.args.key) old.knows new.knows c.touch.result = subst (λ (w : ℕ). IsTouched w old.knows new.knows c.touch.result) c.word.ensures.value c.touch.ensures.touched in
    finds_it c.args.self.now old new c.args.key c.touch.result (ap key_of (sym c.word.ensures.value) ∙ c.word.ensures.back) is

pub returns-clause-part : goal.returns-clause-part
returns-clause-part c =
    touched_part c.word.result c.seat.inside.hand.seat.me.0 c.touch.new.hand.seat.me.0 c.touch.result c.touch.ensures.touched ∙ ap (λ (t : Toucher). t.knows.part) c.seat.view_is

pub returns-clause-named : goal.returns-clause-named
returns-clause-named c = ap key_of (sym c.word.ensures.value) ∙ c.word.ensures.back
