use Rattle.std.proofs.Common.{◌≡◌, length, ap, ◌∙◌, ℕ, List}
use Rattle.std.specs.Prelude.{replicate, pos}
use Rattle.std.specs.Vec.{with_items}
use Rattle.std.specs.declared.vec.Vec.{Vec}
use Rattle.std.proofs.lemmas.List.{with_items_is}
use Rattle.voxel_block.proofs.VoxelLists.{voxels_of-filled, all_new_filled}
use Rattle.voxel_block.proofs.block.Block.reset.Goals as goal

-- a vector of n elements whose slice was filled with x
filled : {X Z : Type 0} (v : Vec X Z) (before after : List X) (n : ℕ) (x : X) → length before ≡ v.len → v.len ≡ n → length after ≡ length before → after ≡ replicate (length before) x
    → (with_items v after).items ≡ replicate n x
filled v before after n x was len same is = with_items_is v after (same ∙ was) ∙ is ∙ ap (λ k. replicate k x) (was ∙ len)

pub invariant_of-self : goal.invariant_of-self
invariant_of-self c =
    let p = filled c.self.inside.distances _ _ 512 (pos 32767) c.as_mut_slice.ensures.len c.self.invariant.0 c.fill.ensures.len (c.fill.ensures.after (λ _ e. e)) in
    let q = filled c.self.inside.weights _ _ 512 0 c.as_mut_slice-2.ensures.len c.self.invariant.1 c.fill-2.ensures.len (c.fill-2.ensures.after (λ _ e. e)) in
    (c.self.invariant.0, c.self.invariant.1, all_new_filled 512 _ _ p q)

pub returns : goal.returns
returns c =
    let p = filled c.self.inside.distances _ _ 512 (pos 32767) c.as_mut_slice.ensures.len c.self.invariant.0 c.fill.ensures.len (c.fill.ensures.after (λ _ e. e)) in
    let q = filled c.self.inside.weights _ _ 512 0 c.as_mut_slice-2.ensures.len c.self.invariant.1 c.fill-2.ensures.len (c.fill-2.ensures.after (λ _ e. e)) in
    voxels_of-filled 512 _ _ p q
