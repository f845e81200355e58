use Rattle.std.specs.Prelude.{pos}
use Rattle.camera.proofs.RayBack.{pixel_of}
use Rattle.camera.proofs.Walk.{walk_is_active, walk_has_key}
use Rattle.camera.proofs.laws.nearest_is_active.Goals as goal

pub returns : goal.returns
returns c = λ k m u v z o w uw vh front back.
    let i = pixel_of k u v uw vh in
    (walk_is_active k m (pos u) (pos v) z o.ranges o.sphere w i front back, walk_has_key k m (pos u) (pos v) z o.ranges o.reach w.range i front back)
