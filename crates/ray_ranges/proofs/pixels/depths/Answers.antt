use Rattle.std.proofs.Common.{arith, refl, ◌∙◌, lit≤}
use Rattle.std.proofs.lemmas.Int.{ints, to_z-of_z}
use mir.Syntax.{w64}
use Rattle.camera.proofs.Readings.{fields_read}
use Rattle.ray_ranges.proofs.MachineLemmas.{clip_low, clip_high, read, same_span}
use Rattle.ray_ranges.proofs.pixels.depths.Goals as goal

pub returns-clause-bound : goal.returns-clause-bound
returns-clause-bound c =
    let k = c.args.camera.now in
    let r = c.requires.camera in
    record {
      low = clip_low c.max.result c.args.z.low k.near c.requires.z.low r.near (omega (arith, ints, r.far, r.far_high)) c.max.ensures.value;
      high = clip_high c.min.result c.args.z.high k.far c.requires.z.high (omega (arith, ints, r.near, r.far)) r.far_high c.min.ensures.value;
    }

pub returns-clause-value : goal.returns-clause-value
returns-clause-value c =
    let k = c.args.camera.now in
    let z = c.args.z in
    let is = fields_read k c.requires.camera in
    same_span _ _ _ _
    (to_z-of_z w64 c.max.result (record { sfits = c.max.type_inv }) ∙ c.max.ensures.value ∙ rw (read 4294967296 z.low c.requires.z.low (lit≤ tt), is.near) refl)
    (to_z-of_z w64 c.min.result (record { sfits = c.min.type_inv }) ∙ c.min.ensures.value ∙ rw (read 4294967296 z.high c.requires.z.high (lit≤ tt), is.far) refl)
