use Rattle.std.proofs.Common.{◌++◌, ap, ◌∙◌}
use Rattle.std.specs.Prelude.{filter}
use Rattle.camera.specs.Cameras.{is_active}
use Rattle.chunk_store.specs.Rows.{Row, keys_in}
use Rattle.chunk_store.proofs.Skipping.{empty_row, other_row}
use Rattle.chunk_store.proofs.row.Row.add_active.Goals as goal
use Rattle.chunk_store.proofs.row.Row.add_active.Goals.{then-self-eq0-via-then-self-eq0, then-self-eq0-via-else-self-eq0+then-not-may_hold_active}

pub returns-then-self-eq0 : goal.returns-then-self-eq0
returns-then-self-eq0 c =
    let p = is_active c.args.camera.now c.args.pose.now in
    let keys = c.args.keys.now.items in
    elim c.then-self-eq0.branch [
      | then-self-eq0-via-then-self-eq0 w ↦ empty_row p keys c.self.inside.places.items c.self.inside.held c.self.invariant.1 w.if-self-eq0.true ∙ ap (λ (r : Row). keys ++ filter p (keys_in r)) c.self.view_is
      | then-self-eq0-via-else-self-eq0+then-not-may_hold_active w ↦ other_row p keys c.args.chunk c.args.self.now c.requires (w.may_hold_active.ensures.none w.if-not-may_hold_active.true)
    ]
