use Rattle.camera.proofs.VisibilityLemmas.{IsBounded, less_fits, less_within, left_bound, both_sides, not_left}
use Rattle.camera.proofs.visibility.is_between_sides.Goals as goal

pub overflow_sub-x : goal.overflow_sub-x
overflow_sub-x c = less_fits c.args.x c.args.margin c.requires.x c.requires.margin

pub reaches_high_side-requires-clause-x : goal.reaches_high_side-requires-clause-x
reaches_high_side-requires-clause-x c = less_within c.args.x c.args.margin c.requires.x c.requires.margin

pub returns-then-reaches_low_side : goal.returns-then-reaches_low_side
returns-then-reaches_low_side c =
    let a = c.args in
    let r = c.requires in
    let bounds : IsBounded a.f a.c a.size a.margin a.x a.depth = record { focal = r.f; centre = r.c; size = r.size; round = r.margin; place = r.x; depth = r.depth } in
    both_sides c.reaches_low_side.result c.reaches_high_side.result a.f a.c a.size a.margin a.x a.depth c.left.result c.right.result bounds c.left.ensures.value (left_bound c.left.result c.left.ensures.bound) c.right.ensures.value c.right.ensures.bound
    c.reaches_low_side.ensures c.reaches_high_side.ensures c.if-reaches_low_side.true

pub returns-else-reaches_low_side : goal.returns-else-reaches_low_side
returns-else-reaches_low_side c =
    let a = c.args in
    let r = c.requires in
    let bounds : IsBounded a.f a.c a.size a.margin a.x a.depth = record { focal = r.f; centre = r.c; size = r.size; round = r.margin; place = r.x; depth = r.depth } in
    not_left c.reaches_low_side.result a.f a.c a.size a.margin a.x a.depth c.left.result bounds c.left.ensures.value (left_bound c.left.result c.left.ensures.bound) c.reaches_low_side.ensures c.if-reaches_low_side.false
