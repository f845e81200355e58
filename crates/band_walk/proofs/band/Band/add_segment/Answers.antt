use Rattle.std.proofs.Common.{◌≡◌, ◌∙◌, ◌+◌, [], ◌∷◌, map, ap, sym, subst, arith}
use Rattle.std.specs.List.{range_with_len}
use Rattle.std.proofs.lemmas.Result.{IfOk-weaker}
use Rattle.camera.specs.Grid.{block_at}
use Rattle.voxel_block.specs.Words.{key_with}
use Rattle.band_walk.specs.Memos.{HasAdded}
use Rattle.band_walk.specs.Remaining.{sample_block}
use Rattle.band_walk.proofs.MemoLemmas.{grown_more}
use Rattle.band_walk.proofs.PixelLemmas.{sample_more}
use Rattle.band_walk.proofs.SampleLemmas.{first_sample, last_sample}
use Rattle.band_walk.proofs.band.Band.add_segment.Goals as goal

pub loop-j-init : goal.loop-j-init
loop-j-init c =
    let s = c.args.segment in
    let is = c.block_at.ensures ∙ ap (block_at c.args.self.now.side.voxel) (first_sample s.start s.end s.n s.least) in
    subst (λ b. HasAdded (b ∷ []) c.args.memo.now c.args.keys.now.items c.add.new.self c.add.new.keys.items) is c.in_ok-add.ensures.added

pub loop-j-preserved : goal.loop-j-preserved
loop-j-preserved c =
    let side = c.args.self.now.side in
    let b = c.block_at-in-loop-j.result in
    let is = c.block_at-in-loop-j.ensures ∙ ap (block_at side.voxel) c.inner_sample.ensures.value in
    sample_more (sample_block side c.args.segment) c.loop-j.j (key_with b.x b.y b.z) c.args.memo.now c.loop-j.memo c.add-in-loop-j.new.self c.args.keys.now.items c.loop-j.keys.items c.add-in-loop-j.new.keys.items c.loop-j.invariant is c.in_ok-add-2.ensures.added

pub returns-in_err-add-2-clause-grown : goal.returns-in_err-add-2-clause-grown
returns-in_err-add-2-clause-grown c =
    grown_more c.args.memo.now c.loop-j.memo c.add-in-loop-j.new.self c.args.keys.now.items c.loop-j.keys.items c.add-in-loop-j.new.keys.items c.loop-j.invariant.grown c.in_err-add-2.ensures.grown

pub returns-clause-grown : goal.returns-clause-grown
returns-clause-grown c =
    grown_more c.args.memo.now c.loop-j.memo c.add-2.new.self c.args.keys.now.items c.loop-j.keys.items c.add-2.new.keys.items c.loop-j.invariant.grown c.add-2.ensures.grown

pub returns-clause-added : goal.returns-clause-added
returns-clause-added c =
    let s = c.args.segment in
    let side = c.args.self.now.side in
    let f = sample_block side s in
    let end : c.loop-j.j ≡ s.n = omega (arith, c.loop-j-test.false, c.loop-j.auto.j-end, s.least) in
    let b = c.block_at-2.result in
    let is : key_with b.x b.y b.z ≡ f c.loop-j.j = c.block_at-2.ensures ∙ ap (block_at side.voxel) (last_sample s.start s.end s.n s.least) ∙ ap f (sym end) in
    IfOk-weaker c.add-2.result _ _
    (λ _ one. subst (λ n. HasAdded (map f (range_with_len 0 (n + 1))) c.args.memo.now c.args.keys.now.items c.add-2.new.self c.add-2.new.keys.items) end
    (sample_more f c.loop-j.j (key_with b.x b.y b.z) c.args.memo.now c.loop-j.memo c.add-2.new.self c.args.keys.now.items c.loop-j.keys.items c.add-2.new.keys.items c.loop-j.invariant is one))
    c.add-2.ensures.added
