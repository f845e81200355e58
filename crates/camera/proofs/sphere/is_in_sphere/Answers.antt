use Rattle.camera.proofs.SphereLemmas.{sphere_read}
use Rattle.camera.proofs.sphere.is_in_sphere.Goals as goal

pub returns : goal.returns
returns c = sphere_read c.is_within_radius.result c.args.camera.now c.args.point c.offset_from_centre-offset.result c.requires.point c.offset_from_centre-offset.ensures.bound c.offset_from_centre-offset.ensures.value c.is_within_radius.ensures
