use Rattle.crossing_export.proofs.BlockLemmas.{none_yet, voxel_more, grown_same, grown_on}
use Rattle.crossing_export.proofs.block.add_block.Goals as goal

pub loop-i-init : goal.loop-i-init
loop-i-init c = record { appended = λ m h. none_yet m _ c.args.around.now.key c.args.out.now.items; grown = grown_same c.args.out.now.items }

pub loop-i-preserved : goal.loop-i-preserved
loop-i-preserved c = record {
  appended = λ m h. voxel_more m _ c.args.around.now.key c.loop-i.i c.args.out.now.items c.loop-i.out.items c.add_voxel.new.out.items (c.loop-i.invariant.appended m h) (c.in_ok-add_voxel.ensures.appended m h);
  grown = grown_on c.args.out.now.items c.loop-i.out.items c.add_voxel.new.out.items c.loop-i.invariant.grown c.add_voxel.ensures.grown;
}

pub returns-in_err-add_voxel-clause-grown : goal.returns-in_err-add_voxel-clause-grown
returns-in_err-add_voxel-clause-grown c = grown_on c.args.out.now.items c.loop-i.out.items c.add_voxel.new.out.items c.loop-i.invariant.grown c.add_voxel.ensures.grown
