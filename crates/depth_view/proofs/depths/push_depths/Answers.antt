use Rattle.std.proofs.Common.{◌≡◌, ◌++◌, ◌∙◌, List, [], ◌∷◌, get_or, length, map, take, ap, arith, sym}
use Rattle.std.specs.Prelude.{ℤ}
use Rattle.std.proofs.lemmas.Int.{to_z-of_z}
use Rattle.std.proofs.lemmas.List.{append_assoc, map_more}
use Rattle.std.proofs.Math.Seq.{take-length}
use mir.Syntax.{w32}
use Rattle.depth_view.specs.Views.{listed_depth}
use Rattle.depth_view.proofs.depths.push_depths.Goals as goal

pub loop-i-preserved : goal.loop-i-preserved
loop-i-preserved c =
    let f = listed_depth c.args.camera.now in
    let one = to_z-of_z w32 c.depth.result (record { sfits = c.depth.type_inv }) ∙ c.depth.ensures in
    let y : ℤ = f (get_or c.args.samples.now c.loop-i.i 0) in
    let before : List ℤ = map f (take c.loop-i.i c.args.samples.now) in (
      c.push_reserved.ensures.items ∙ ap (λ x. c.loop-i.depths.items ++ x ∷ []) one ∙ ap (λ xs. xs ++ y ∷ []) c.loop-i.invariant.0 ∙ append_assoc c.args.depths.now.items before (y ∷ [])
          ∙ ap (λ xs. c.args.depths.now.items ++ xs) (sym (map_more f c.args.samples.now c.loop-i.i 0 c.loop-i-test.true)),
      omega (arith, c.push_reserved.ensures.len, c.loop-i.invariant.1),
      c.push_reserved.ensures.capacity ∙ c.loop-i.invariant.2,
    )

pub returns : goal.returns
returns c =
    let end : c.loop-i.i ≡ length c.args.samples.now = omega (arith, c.loop-i-test.false, c.loop-i.auto.i-end) in
    c.loop-i.invariant.0 ∙ ap (λ n. c.args.depths.now.items ++ map (listed_depth c.args.camera.now) (take n c.args.samples.now)) end
    ∙ ap (λ xs. c.args.depths.now.items ++ map (listed_depth c.args.camera.now) xs) (take-length c.args.samples.now)
