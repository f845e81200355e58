use Rattle.camera.proofs.SphereLemmas.{near_sphere_read}
use Rattle.camera.proofs.sphere.is_near_sphere.Goals as goal

pub returns : goal.returns
returns c =
    near_sphere_read c.is_within_radius.result c.args.camera.now c.args.point c.chunk_margin-margin.result c.offset_from_centre-offset.result c.least_size.result c.least_size-2.result c.least_size-3.result c.requires.point
    c.chunk_margin-margin.ensures.value c.chunk_margin-margin.ensures.low c.chunk_margin-margin.ensures.high
    c.offset_from_centre-offset.ensures.bound c.offset_from_centre-offset.ensures.value
    c.least_size.ensures.value c.least_size-2.ensures.value c.least_size-3.ensures.value
    c.least_size.ensures.bound c.least_size-2.ensures.bound c.least_size-3.ensures.bound
    c.is_within_radius.ensures
