use Rattle.std.proofs.Common.{◌+◌, sym, ap, subst, ◌∙◌, arith, rules}
use Rattle.std.proofs.lemmas.Int.{to_z-of_z}
use mir.Val.{SFits, of_z, to_z}
use mir.Syntax.{w16}
use Rattle.streamer.specs.Owners.{owner_at}
use Rattle.streamer.proofs.Ways.{cell_below}
use Rattle.session.specs.Collecting.{Collects, is_empty_owner}
use Rattle.session.proofs.CollectingLemmas.{Collecting, collecting_all, collecting_kept, collecting_next, collecting_none, has_owner}
use Rattle.session.proofs.collecting.collect_empty.Goals as goal
use Rattle.session.proofs.collecting.collect_empty.Goals.{then-is_empty_at, else-is_empty_at}

pub loop-cell-init : goal.loop-cell-init
loop-cell-init c = collecting_none _ c.args.rest.now c.requires.placed

pub remove_at-requires-clause-cell : goal.remove_at-requires-clause-cell
remove_at-requires-clause-cell c =
    let below = c.loop-cell-test.true in
    let count = c.cell_count-cell-end.ensures.value in
    let cells = c.loop-cell.invariant.cells in
    omega (arith, below, count, cells)

pub remove_at-requires-clause-owned : goal.remove_at-requires-clause-owned
remove_at-requires-clause-owned c =
    let e = to_z w16 (of_z w16 c.args.empty_f) in
    has_owner e (owner_at c.loop-cell.rest.heap c.loop-cell.cell) (sym (c.if-is_empty_at.ensures ∙ ap (λ h. is_empty_owner e (owner_at h c.loop-cell.cell)) c.heap.ensures.value))

pub loop-cell-preserved : goal.loop-cell-preserved
loop-cell-preserved c =
    let e = to_z w16 (of_z w16 c.args.empty_f) in
    let p = c.args.rest.now in
    let r = c.loop-cell.rest in
    let n = c.loop-cell.cell in
    let x = c.loop-cell.invariant in
    elim c.if-is_empty_at.branch [
      | then-is_empty_at w ↦ (
          let y = w.remove_at.ensures in
          subst (λ s. Collecting e (n + 1) p s c.if-is_empty_at.count) (sym w.rest-is) (subst (λ m. Collecting e (n + 1) p w.remove_at.new.self m) (sym w.count-is)
          (collecting_next e p n c.requires.placed r w.remove_at.new.self c.loop-cell.count x
          (record { blocks = y.blocks; table = y.table; others = y.others; store = y.store; cells = y.cells; size = y.size; placed = y.placed })
          (sym (w.if-is_empty_at.ensures ∙ ap (λ h. is_empty_owner e (owner_at h n)) c.heap.ensures.value)))))
      | else-is_empty_at w ↦ (
          subst (λ s. Collecting e (n + 1) p s c.if-is_empty_at.count) (sym w.rest-is) (subst (λ m. Collecting e (n + 1) p r m) (sym w.count-is)
          (collecting_kept e p n c.requires.placed r c.loop-cell.count x
          (sym (w.if-is_empty_at.ensures ∙ ap (λ h. is_empty_owner e (owner_at h n)) c.heap.ensures.value)))))
    ]

pub returns-clause-collected : goal.returns-clause-collected
returns-clause-collected c =
    let fits : SFits w16 c.args.empty_f = search rules in
    let p = c.args.rest.now in
    let count = c.cell_count-cell-end.ensures.value in
    let end = c.loop-cell-test.false in
    subst (λ e. Collects e p c.loop-cell.rest) (to_z-of_z w16 c.args.empty_f fits)
    (collecting_all _ c.loop-cell.cell p c.loop-cell.rest c.loop-cell.count (λ b m is. (let below = cell_below p b m c.requires.placed (sym is) in omega (arith, below, count, end))) c.loop-cell.invariant)
