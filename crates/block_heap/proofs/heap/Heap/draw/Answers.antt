use Rattle.std.proofs.Common.{◌≡◌, ◌∙◌, ◌-◌, [], length, get_or, set, take, refl, ap, sym, arith}
use Rattle.std.specs.Prelude.{Some, true, slice_get}
use Rattle.std.proofs.lemmas.Option.{slice_get-get_or}
use Rattle.block_heap.specs.declared.cell.Cell.TheVariants.{Free}
use Rattle.block_heap.specs.Cells.{Cells, drawn, is_free_at, owned_by}
use Rattle.block_heap.proofs.FreeLists.{drawn_list, is_free_at-lt, last_is_free, last_of}
use Rattle.block_heap.proofs.heap.Heap.draw.Goals as goal
use Rattle.block_heap.proofs.heap.Heap.draw.Goals.{After-set_owner}

pub set_owner-requires : goal.set_owner-requires
set_owner-requires c =
    let cells = c.self.inside.cells in
    let free : is_free_at cells.items c.in_ok-cell.cell ≡ true = last_is_free cells.items c.self.inside.free.items c.pop.new.self.items c.in_ok-cell.cell c.self.invariant.0 c.in_ok-cell.ensures.items in
    let below = is_free_at-lt cells.items c.in_ok-cell.cell free in
    let count = cells.ok.0 in
    omega arith

-- the cells after the step
owned : (c : After-set_owner) → c.set_owner.new.cells.items ≡ set c.self.inside.cells.items c.in_ok-cell.cell (owned_by c.args.key)
owned c =
    let cells = c.self.inside.cells.items in
    let below = is_free_at-lt cells c.in_ok-cell.cell (last_is_free cells c.self.inside.free.items c.pop.new.self.items c.in_ok-cell.cell c.self.invariant.0 c.in_ok-cell.ensures.items) in
    c.set_owner.ensures.cells (get_or cells c.in_ok-cell.cell (Free [])) (slice_get-get_or cells c.in_ok-cell.cell (Free []) below)

pub returns-clause-value : goal.returns-clause-value
returns-clause-value c =
    last_of c.self.inside.free.items c.pop.new.self.items c.in_ok-cell.cell c.in_ok-cell.ensures.items ∙ ap (λ (h : Cells). slice_get h.free (length h.free - 1)) c.self.view_is

pub returns-clause-free : goal.returns-clause-free
returns-clause-free c =
    ap (λ (h : Cells). is_free_at h.cells c.in_ok-cell.cell) (sym c.self.view_is) ∙ last_is_free c.self.inside.cells.items c.self.inside.free.items c.pop.new.self.items c.in_ok-cell.cell c.self.invariant.0 c.in_ok-cell.ensures.items

pub returns-clause-list : goal.returns-clause-list
returns-clause-list c =
    rw (owned c) (drawn_list c.self.inside.cells.items c.self.inside.free.items c.pop.new.self.items c.in_ok-cell.cell (owned_by c.args.key) c.self.invariant.0 c.in_ok-cell.ensures.items refl)

pub returns-clause-after : goal.returns-clause-after
returns-clause-after c =
    let rest = c.in_ok-cell.ensures.rest ∙ ap (λ n. take (n - 1) c.self.inside.free.items) c.self.inside.free.ok.0 in
    (λ i. record { cells = owned c i; free = rest i }) ∙ ap (λ h. drawn h c.args.key (Some c.in_ok-cell.cell)) c.self.view_is

pub invariant_of-self-2 : goal.invariant_of-self-2
invariant_of-self-2 c =
    let most = c.self.invariant.1 in
    let room = c.self.invariant.2 in
    (returns-clause-list c, omega (arith, c.set_owner.ensures.len), omega (arith, c.set_owner.ensures.len, c.pop.ensures.capacity))
