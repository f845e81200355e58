use Rattle.std.proofs.Common.{◌≡◌, sym, ap, ◌∙◌}
use Rattle.std.specs.Prelude.{Some, None}
use Rattle.std.specs.FinMap.{get, remove}
use Rattle.std.specs.FinSet.{contains}
use Rattle.voxel_block.specs.Chunks.{chunk_of}
use Rattle.chunk_store.specs.Store.{Stored, contents_of}
use Rattle.chunk_store.proofs.Contents.{get_contents}
use Rattle.chunk_store.proofs.Stores.{Taken, as_many, block_taken, held_is_opened, one_less, some_held}
use Rattle.chunk_store.proofs.store.ChunkStore.take.Goals as goal
use Rattle.chunk_store.proofs.store.ChunkStore.take.Goals.{After-from_residual, After-self-1}

-- ---- there was none

none : (c : After-from_residual) → get (contents_of c.self.inside.rows.entries) c.args.key ≡ None
none c = get_contents c.self.inside.rows.entries c.args.key c.self.invariant.unique c.self.invariant.rows ∙ sym c.in_err-packed.ensures.value

left : (c : After-from_residual) → Taken c.self.inside.rows.entries c.args.key c.take.new.rows.entries
left c = block_taken c.self.inside.rows.entries c.args.key c.self.inside.count c.take.new.rows.entries c.self.invariant c.in_err-packed.ensures.written c.in_err-packed.ensures.unchanged

pub invariant_of-self : goal.invariant_of-self
invariant_of-self c = as_many c.self.inside.rows.entries c.args.key c.self.inside.count c.take.new.rows.entries c.self.invariant (left c) (none c)

pub returns-in_err-packed-clause-value : goal.returns-in_err-packed-clause-value
returns-in_err-packed-clause-value c = c.from_residual.ensures ∙ sym (none c) ∙ ap (λ (s : Stored). get s.contents c.args.key) c.self.view_is

pub returns-in_err-packed-clause-store : goal.returns-in_err-packed-clause-store
returns-in_err-packed-clause-store c = (λ i. record { contents = (left c).contents i; opened = (left c).opened i }) ∙ ap (λ (s : Stored). record { contents = remove s.contents c.args.key; opened = s.opened }) c.self.view_is

-- ---- there was one

held : (c : After-self-1) → get (contents_of c.self.inside.rows.entries) c.args.key ≡ Some c.in_ok-packed.packed
held c = get_contents c.self.inside.rows.entries c.args.key c.self.invariant.unique c.self.invariant.rows ∙ sym c.in_ok-packed.ensures.value

taken : (c : After-self-1) → Taken c.self.inside.rows.entries c.args.key c.take.new.rows.entries
taken c = block_taken c.self.inside.rows.entries c.args.key c.self.inside.count c.take.new.rows.entries c.self.invariant c.in_ok-packed.ensures.written c.in_ok-packed.ensures.unchanged

pub overflow_sub-self : goal.overflow_sub-self
overflow_sub-self c =
    let held : get (contents_of c.self.inside.rows.entries) c.args.key ≡ Some c.in_ok-packed.packed = get_contents c.self.inside.rows.entries c.args.key c.self.invariant.unique c.self.invariant.rows ∙ sym c.in_ok-packed.ensures.value in
    (some_held c.self.inside.rows.entries c.args.key c.self.inside.count c.in_ok-packed.packed c.self.invariant held)

pub invariant_of-self-2 : goal.invariant_of-self-2
invariant_of-self-2 c = one_less c.self.inside.rows.entries c.args.key c.self.inside.count c.in_ok-packed.packed c.take.new.rows.entries c.self.invariant (taken c) (held c)

pub returns-clause-value : goal.returns-clause-value
returns-clause-value c = sym (held c) ∙ ap (λ (s : Stored). get s.contents c.args.key) c.self.view_is

pub returns-clause-store : goal.returns-clause-store
returns-clause-store c = (λ i. record { contents = (taken c).contents i; opened = (taken c).opened i }) ∙ ap (λ (s : Stored). record { contents = remove s.contents c.args.key; opened = s.opened }) c.self.view_is

pub returns-clause-opened : goal.returns-clause-opened
returns-clause-opened c = ap (λ s. contains s (chunk_of c.args.key)) (taken c).opened ∙ held_is_opened c.self.inside.rows.entries c.args.key c.self.inside.count c.in_ok-packed.packed c.self.invariant (held c)
