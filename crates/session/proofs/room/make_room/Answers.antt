use Rattle.std.proofs.Common.{ap, ◌∙◌}
use Rattle.chunk_store.specs.Store.{opened_with}
use Rattle.session.proofs.RoomLemmas.{ready}
use Rattle.session.proofs.room.make_room.Goals as goal

pub returns-clause-ready : goal.returns-clause-ready
returns-clause-ready g c =
    ready c.args.frame.now c.args.rest.now c.reserve_out.new.self (record { plan = c.in_ok-plan.plan; packs = c.in_ok-packs.packs })
    (record { table = c.in_ok-reserve_out.ensures.table; heap = c.in_ok-reserve_out.ensures.heap; contents = c.in_ok-reserve_out.ensures.contents })
    c.in_ok-plan.ensures.plan (c.in_ok-packs.ensures ∙ c.len.ensures ∙ c.in_ok-plan.plan.leave.ok.0) (c.in_ok-reserve_out.ensures.ok ∙ ap (opened_with c.args.rest.now.store.opened) c.deref.ensures.value)
