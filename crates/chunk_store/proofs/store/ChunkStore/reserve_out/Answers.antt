use Rattle.std.proofs.Common.{◌≡◌, take, get_or, refl, ap, ◌∙◌}
use Rattle.std.proofs.lemmas.List.{take_more}
use Rattle.std.specs.Prelude.{pos}
use Rattle.std.specs.FinSet.{insert}
use Rattle.voxel_block.specs.declared.key.BlockKey.{BlockKey}
use Rattle.chunk_store.specs.Store.{Stored, opened_with}
use Rattle.chunk_store.proofs.Stores.{with_next, with_none, with_some}
use Rattle.chunk_store.proofs.store.ChunkStore.reserve_out.Goals as goal
use Rattle.chunk_store.proofs.store.ChunkStore.reserve_out.Goals.{After-from_residual}

zero_key : BlockKey
zero_key = record { x = pos 0; y = pos 0; z = pos 0 }

pub loop-key-init : goal.loop-key-init
loop-key-init c = record { contents = refl; opened = with_none c.args.self.now.opened }

pub loop-key-preserved : goal.loop-key-preserved
unfolding zero_key
loop-key-preserved c =
    let ks = c.args.keys.now in
    let i = c.loop-key.key-index in record {
      contents = ap (λ (s : Stored). s.contents) c.in_ok-open.ensures.ok ∙ c.loop-key.invariant.contents;
      opened = ap (λ (s : Stored). s.opened) c.in_ok-open.ensures.ok
          ∙ (λ j. insert (c.loop-key.invariant.opened j) (c.chunk.ensures j))
          ∙ with_next c.args.self.now.opened ks i (get_or ks i zero_key) (take_more ks i zero_key c.loop-key-test.true);
    }

so_far : (c : After-from_residual) → c.open.new.self.opened ≡ opened_with c.args.self.now.opened (take c.loop-key.key-index c.args.keys.now)
so_far c = ap (λ (s : Stored). s.opened) c.in_err-open.ensures.err ∙ c.loop-key.invariant.opened

pub returns-in_err-open-clause-kept : goal.returns-in_err-open-clause-kept
returns-in_err-open-clause-kept c = (with_some c.args.self.now.opened c.open.new.self.opened c.args.keys.now c.loop-key.key-index (so_far c)).0

pub returns-in_err-open-clause-others : goal.returns-in_err-open-clause-others
returns-in_err-open-clause-others c = (with_some c.args.self.now.opened c.open.new.self.opened c.args.keys.now c.loop-key.key-index (so_far c)).1

pub returns-clause-kept : goal.returns-clause-kept
returns-clause-kept c = (with_some c.args.self.now.opened c.loop-key.self.opened c.args.keys.now c.loop-key.key-index c.loop-key.invariant.opened).0

pub returns-clause-others : goal.returns-clause-others
returns-clause-others c = (with_some c.args.self.now.opened c.loop-key.self.opened c.args.keys.now c.loop-key.key-index c.loop-key.invariant.opened).1
