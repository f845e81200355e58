use Rattle.std.proofs.Common.{◌≡◌, ◌∙◌, sym, refl, rules, true, false}
use Rattle.std.proofs.lemmas.Int.{to_z-of_z}
use Rattle.camera.specs.Cameras.{fits_sphere}
use Rattle.camera.proofs.Readings.{read}
use Rattle.camera.proofs.OpeningLemmas.{opened_by, reaches_are, reach_tested_by}
use Rattle.camera.proofs.opening.check_opening.Goals as goal

pub fits_sphere-requires-clause-x : goal.fits_sphere-requires-clause-x
fits_sphere-requires-clause-x c =
    let x : read c.reach-x.result ≡ c.reach-x.result = search (rules, to_z-of_z) in
    x ∙ (reaches_are c.args.k c.max_depth-top.result c.reach-x.result c.reach-y.result c.requires c.max_depth-top.ensures.value (search (rules, to_z-of_z)) c.reach-x.ensures.value c.reach-y.ensures.value).0

pub fits_sphere-requires-clause-y : goal.fits_sphere-requires-clause-y
fits_sphere-requires-clause-y c =
    let y : read c.reach-y.result ≡ c.reach-y.result = search (rules, to_z-of_z) in
    y ∙ (reaches_are c.args.k c.max_depth-top.result c.reach-x.result c.reach-y.result c.requires c.max_depth-top.ensures.value (search (rules, to_z-of_z)) c.reach-x.ensures.value c.reach-y.ensures.value).1

pub returns-then-not-in_reach : goal.returns-then-not-in_reach
returns-then-not-in_reach c =
    let is = reaches_are c.args.k c.max_depth-top.result c.reach-x.result c.reach-y.result c.requires c.max_depth-top.ensures.value (search (rules, to_z-of_z)) c.reach-x.ensures.value c.reach-y.ensures.value in
    rw (opened_by c.args.k false (fits_sphere c.args.k) (sym c.if-not-in_reach.true ∙ reach_tested_by c.args.k c.reach-x.result c.reach-y.result c.in_reach.result is.0 is.1 (search (rules, to_z-of_z)) (search (rules, to_z-of_z)) c.in_reach.ensures.value) refl) refl

pub returns-then-fits_sphere : goal.returns-then-fits_sphere
returns-then-fits_sphere c =
    let is = reaches_are c.args.k c.max_depth-top.result c.reach-x.result c.reach-y.result c.requires c.max_depth-top.ensures.value (search (rules, to_z-of_z)) c.reach-x.ensures.value c.reach-y.ensures.value in
    let reach = reach_tested_by c.args.k c.reach-x.result c.reach-y.result c.in_reach.result is.0 is.1 (search (rules, to_z-of_z)) (search (rules, to_z-of_z)) c.in_reach.ensures.value in
    rw (opened_by c.args.k true true (sym c.if-not-in_reach.false ∙ reach) (sym c.if-fits_sphere.true ∙ c.fits_sphere.ensures)) refl

pub returns-else-fits_sphere : goal.returns-else-fits_sphere
returns-else-fits_sphere c =
    let is = reaches_are c.args.k c.max_depth-top.result c.reach-x.result c.reach-y.result c.requires c.max_depth-top.ensures.value (search (rules, to_z-of_z)) c.reach-x.ensures.value c.reach-y.ensures.value in
    let reach = reach_tested_by c.args.k c.reach-x.result c.reach-y.result c.in_reach.result is.0 is.1 (search (rules, to_z-of_z)) (search (rules, to_z-of_z)) c.in_reach.ensures.value in
    rw (opened_by c.args.k true false (sym c.if-not-in_reach.false ∙ reach) (sym c.if-fits_sphere.false ∙ c.fits_sphere.ensures)) refl
