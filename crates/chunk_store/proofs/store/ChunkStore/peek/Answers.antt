use Rattle.std.proofs.Common.{◌≡◌, ℕ, List, sym, ap, ◌∙◌}
use Rattle.std.specs.Prelude.{Option, Some, None, IfSome, option_map}
use Rattle.std.specs.FinMap.{get}
use Rattle.std.specs.FinSet.{contains}
use Rattle.voxel_block.specs.Chunks.{chunk_of}
use Rattle.chunk_store.specs.Store.{Stored}
use Rattle.chunk_store.proofs.Stores.{held_is_opened}
use Rattle.chunk_store.proofs.Contents.{get_contents}
use Rattle.chunk_store.proofs.store.ChunkStore.peek.Goals as goal

pub returns-clause-value : goal.returns-clause-value
returns-clause-value c = c.peek.ensures ∙ sym (get_contents c.self.inside.rows.entries c.args.key c.self.invariant.unique c.self.invariant.rows) ∙ ap (λ (s : Stored). get s.contents c.args.key) c.self.view_is

opened_by : {X : Type 0} (f : X → List ℕ) (o : Option X) (m : Option (List ℕ)) (P : Type 0) → option_map f o ≡ m → ((v : List ℕ) → m ≡ Some v → P) → IfSome o (λ _. P)
opened_by f None m P e h = tt
opened_by f (Some x) m P e h = h (f x) (sym e)

pub returns-clause-opened : goal.returns-clause-opened
returns-clause-opened c =
    let es = c.self.inside.rows.entries in
    opened_by (λ p. p.now) c.peek.result _ _ (c.peek.ensures ∙ sym (get_contents es c.args.key c.self.invariant.unique c.self.invariant.rows))
    (λ v e. ap (λ (s : Stored). contains s.opened (chunk_of c.args.key)) (sym c.self.view_is) ∙ held_is_opened es c.args.key c.self.inside.count v c.self.invariant e)
