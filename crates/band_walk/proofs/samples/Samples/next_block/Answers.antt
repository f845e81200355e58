use Rattle.std.proofs.Common.{◌≡◌, ◌∙◌, ◌+◌, ◌-◌, ◌∷◌, map, sym, ap, arith}
use Rattle.std.specs.List.{range_with_len}
use Rattle.camera.specs.Grid.{block_at}
use Rattle.band_walk.specs.Remaining.{sample_block}
use Rattle.band_walk.proofs.WalkLemmas.{map_next}
use Rattle.band_walk.proofs.samples.Samples.next_block.Goals as goal

pub returns-clause-gives : goal.returns-clause-gives
returns-clause-gives c =
    let s = c.args.self.now in
    let f = sample_block s.side s.segment in
    let m = s.segment.n + 1 in
    let key : c.key-key.result ≡ f s.j = c.key-key.ensures ∙ c.block_at.ensures ∙ ap (block_at s.side.voxel) c.sample-sample.ensures.value in
    map_next f s.j m (omega (arith, c.if-self.false)) ∙ ap (λ k. k ∷ map f (range_with_len (s.j + 1) (m - (s.j + 1)))) (sym key)
