use Rattle.std.specs.Prelude.{pos}
use Rattle.camera.proofs.Band.{band_is_active, band_is_in_reach, band_is_near, near_has_key}
use Rattle.camera.proofs.RayBack.{pixel_of}
use Rattle.camera.proofs.laws.pierced_is_active.Goals as goal

pub returns : goal.returns
returns c = λ k m u v y z p q b o w uw vh y1 yd z1 zd at.
    let i = pixel_of k u v uw vh in
    let near = band_is_near k m (pos u) (pos v) y z p q b o.ranges o.reach w.range i y1 yd z1 zd at in
    (band_is_active k m (pos u) (pos v) y z p q b o.ranges o.sphere w i y1 yd z1 zd at, near_has_key b near, near, band_is_in_reach k m (pos u) (pos v) y z p q b o.ranges o.reach w.range i y1 yd z1 zd at)
