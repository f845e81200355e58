use Rattle.std.proofs.Common.{◌≤◌, refl, sym, ap, subst, ◌∙◌, arith}
use Rattle.std.specs.Prelude.{Err}
use Rattle.streamer.specs.Places.{blocks_of}
use Rattle.streamer.specs.Plans.{IsPlan, SaysWhy, need_of}
use Rattle.session.proofs.RoomLemmas.{frame_plan, need_same}
use Rattle.session.proofs.room.plan_touched.Goals as goal

pub returns-in-Ok-clause-room : goal.returns-in-Ok-clause-room
returns-in-Ok-clause-room c =
    let p = c.args.rest.now in
    let f = c.args.frame.now in
    let same = need_same f c.requires.frame p c.requires.placed c.args.touched.now c.requires.keys in
    let plan = subst (λ k. IsPlan k f.pose p c.args.touched.now c.in-Ok.plan) c.camera.ensures.value (subst (λ m. IsPlan c.camera.result.now m p c.args.touched.now c.in-Ok.plan) c.pose.ensures c.in-Ok.ensures.plan) in
    let is = plan.need ∙ same in
    let room = c.in-Ok.ensures.room in
    let limit = c.requires.limit in
    (omega (arith, is, room, limit), is)

pub returns-in-Ok-clause-plan : goal.returns-in-Ok-clause-plan
returns-in-Ok-clause-plan c =
    let p = c.args.rest.now in
    let f = c.args.frame.now in
    let plan = subst (λ k. IsPlan k f.pose p c.args.touched.now c.in-Ok.plan) c.camera.ensures.value (subst (λ m. IsPlan c.camera.result.now m p c.args.touched.now c.in-Ok.plan) c.pose.ensures c.in-Ok.ensures.plan) in
    frame_plan f c.requires.frame p c.requires.placed c.args.touched.now c.requires.keys c.in-Ok.plan plan c.in-Ok.ensures.room

pub returns-in-Err-HeapSpent-clause-room : goal.returns-in-Err-HeapSpent-clause-room
returns-in-Err-HeapSpent-clause-room c =
    let p = c.args.rest.now in
    let f = c.args.frame.now in
    let same = need_same f c.requires.frame p c.requires.placed c.args.touched.now c.requires.keys in
    let why = subst (SaysWhy c.camera.result.now c.pose.result p c.args.touched.now) c.in-Err-HeapSpent.field-0-is c.in-Err-HeapSpent.ensures.spent in
    let needed = ap (λ k. need_of k f.pose p c.args.touched.now) (sym c.camera.ensures.value) ∙ ap (λ m. need_of c.camera.result.now m p c.args.touched.now) (sym c.pose.ensures) in
    let many = why.0 in
    let above = why.1 in
    let limit = c.requires.limit in
    (omega (arith, same, needed, many, above, limit), refl)
