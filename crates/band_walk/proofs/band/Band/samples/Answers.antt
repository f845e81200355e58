use Rattle.std.proofs.Common.{◌≡◌, ◌∙◌, ap, rules}
use Rattle.std.specs.Prelude.{ℤ}
use Rattle.std.proofs.lemmas.Int.{to_z-of_z}
use mir.Val.{to_z, of_z}
use mir.Syntax.{w64}
use Rattle.band_walk.specs.BandViews.{view_of_band}
use Rattle.band_walk.specs.Bands.{blocks_round, segment_blocks, segment_end, segment_start}
use Rattle.band_walk.proofs.PixelLemmas.{pixel_is}
use Rattle.band_walk.proofs.band.Band.samples.Goals as goal

pub returns-in-Some-clause-remaining : goal.returns-in-Some-clause-remaining
returns-in-Some-clause-remaining c =
    let b = c.args.self.now in
    let w = view_of_band b in
    let u = c.args.u in
    let v = c.args.v in
    let e = c.segment.ensures in
    let depth : to_z w64 (of_z w64 c.in-Some.d) ≡ c.in-Some.d = search (rules, to_z-of_z) in
    c.of.ensures.remaining ∙ pixel_is w b.side c.segment.result u v (to_z w64 (of_z w64 c.in-Some.d)) b.voxel e.start e.end e.n
    ∙ ap (λ (d : ℤ). segment_blocks w.camera.voxel (segment_start w u v d) (segment_end w u v d)) depth ∙ ap (blocks_round w u v) c.in-Some.ensures.value
