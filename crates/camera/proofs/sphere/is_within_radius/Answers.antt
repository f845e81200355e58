use Rattle.camera.proofs.SphereLemmas.{two_fit, three_fit, radius_read}
use Rattle.camera.proofs.sphere.is_within_radius.Goals as goal

pub overflow_add-result : goal.overflow_add-result
overflow_add-result c = two_fit c.squared.result c.squared-2.result c.squared.ensures.bound c.squared-2.ensures.bound

pub overflow_add-result-2 : goal.overflow_add-result-2
overflow_add-result-2 c = three_fit c.squared.result c.squared-2.result c.squared-3.result c.squared.ensures.bound c.squared-2.ensures.bound c.squared-3.ensures.bound

pub returns : goal.returns
returns c =
    radius_read c.args.camera.now c.args.x c.args.y c.args.z c.squared.result c.squared-2.result c.squared-3.result c.squared-4.result c.requires.camera c.requires.x c.requires.y c.requires.z
    c.squared.ensures.value c.squared-2.ensures.value c.squared-3.ensures.value c.squared-4.ensures.value
    c.squared.ensures.bound c.squared-2.ensures.bound c.squared-3.ensures.bound c.squared-4.ensures.bound
