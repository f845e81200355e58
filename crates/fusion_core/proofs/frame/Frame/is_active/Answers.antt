use Rattle.std.proofs.Common.{◌≡◌, false, List, length, sym, subst, ◌∙◌}
use Rattle.voxel_block.specs.declared.voxel.Voxel.{Voxel}
use Rattle.fuse_kernel.specs.Updates.{updated}
use Rattle.fuse_kernel.proofs.LawLemmas.{inactive_stays}
use Rattle.fusion_core.specs.Frames.{Frame, view}
use Rattle.fusion_core.proofs.frame.Frame.is_active.Goals as goal

pub returns-clause-inactive : goal.returns-clause-inactive
returns-clause-inactive c = subst (λ (f : Frame). (voxels : List Voxel) → c.active.result ≡ false → length voxels ≡ 512 → updated (view f) f.max_weight c.args.key voxels ≡ voxels) c.self.view_is
    (λ voxels e long. inactive_stays _ c.self.inside.max_weight c.args.key voxels c.self.invariant.shown long (sym c.active.ensures.value ∙ e))
