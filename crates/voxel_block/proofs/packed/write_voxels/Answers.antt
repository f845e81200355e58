use Rattle.std.proofs.Common.{◌≡◌, ◌+◌, ◌*◌, ◌-◌, arith, rules}
use borrow.Rule.Slice.PartMut.{put_mid}
use Rattle.voxel_block.proofs.Packing.{written_more}
use Rattle.voxel_block.proofs.packed.write_voxels.Goals as goal

pub loop-i-preserved : goal.loop-i-preserved
loop-i-preserved c =
    let e : 3 * c.loop-i.i + 3 - 3 * c.loop-i.i ≡ 3 = omega arith in
    written_more c.args.block.now c.loop-i.out _ c.loop-i.i c.get.result (omega arith) c.get.ensures.count (omega arith) c.loop-i.invariant c.get.ensures.value
    (record { voxel = c.get.ensures.voxel; f = search rules; w = search rules })
    (λ k. put_mid (3 * c.loop-i.i) (e k) c.loop-i.out (c.write_voxel.ensures k))
