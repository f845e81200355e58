use Rattle.fixed_geom.specs.Poses.{row_x, row_y, row_z, world}
use Rattle.fixed_geom.proofs.Machine.{read}
use Rattle.fixed_geom.proofs.Worlds.{world_bound}
use Rattle.ray_walk.specs.Raising.{lowered, world_raise}
use Rattle.ray_walk.proofs.VoxelLemmas.{quotient_is, raised_high, raised_low}
use Rattle.ray_walk.proofs.WalkLemmas.{at_read}
use Rattle.ray_walk.proofs.walks.Walks.raised_voxel.Goals as goal

pub quotient-requires-clause-low : goal.quotient-requires-clause-low
quotient-requires-clause-low c =
    let w = c.args.self.now in
    let s = w.fields.voxel in
    let r = w.camera.ranges in
    let is = at_read (row_x w.pose) c.args.p w.pose.t.x (world_raise s w.blocks) c.at.result w.x w.form_x (record { sfits = c.at.type_inv }) c.at.ensures in
    raised_low s w.blocks (world w.pose (lowered c.args.p)).x (read c.at.result) r.voxel r.voxel_high w.blocks_low w.blocks_high (world_bound w.pose (lowered c.args.p) w.placed.range c.requires.near).x is

pub quotient-requires-clause-high : goal.quotient-requires-clause-high
quotient-requires-clause-high c =
    let w = c.args.self.now in
    let s = w.fields.voxel in
    let r = w.camera.ranges in
    let is = at_read (row_x w.pose) c.args.p w.pose.t.x (world_raise s w.blocks) c.at.result w.x w.form_x (record { sfits = c.at.type_inv }) c.at.ensures in
    raised_high s w.blocks (world w.pose (lowered c.args.p)).x (read c.at.result) r.voxel r.voxel_high w.blocks_low w.blocks_high (world_bound w.pose (lowered c.args.p) w.placed.range c.requires.near).x is

pub quotient-requires-2-clause-low : goal.quotient-requires-2-clause-low
quotient-requires-2-clause-low c =
    let w = c.args.self.now in
    let s = w.fields.voxel in
    let r = w.camera.ranges in
    let is = at_read (row_y w.pose) c.args.p w.pose.t.y (world_raise s w.blocks) c.at-2.result w.y w.form_y (record { sfits = c.at-2.type_inv }) c.at-2.ensures in
    raised_low s w.blocks (world w.pose (lowered c.args.p)).y (read c.at-2.result) r.voxel r.voxel_high w.blocks_low w.blocks_high (world_bound w.pose (lowered c.args.p) w.placed.range c.requires.near).y is

pub quotient-requires-2-clause-high : goal.quotient-requires-2-clause-high
quotient-requires-2-clause-high c =
    let w = c.args.self.now in
    let s = w.fields.voxel in
    let r = w.camera.ranges in
    let is = at_read (row_y w.pose) c.args.p w.pose.t.y (world_raise s w.blocks) c.at-2.result w.y w.form_y (record { sfits = c.at-2.type_inv }) c.at-2.ensures in
    raised_high s w.blocks (world w.pose (lowered c.args.p)).y (read c.at-2.result) r.voxel r.voxel_high w.blocks_low w.blocks_high (world_bound w.pose (lowered c.args.p) w.placed.range c.requires.near).y is

pub quotient-requires-3-clause-low : goal.quotient-requires-3-clause-low
quotient-requires-3-clause-low c =
    let w = c.args.self.now in
    let s = w.fields.voxel in
    let r = w.camera.ranges in
    let is = at_read (row_z w.pose) c.args.p w.pose.t.z (world_raise s w.blocks) c.at-3.result w.z w.form_z (record { sfits = c.at-3.type_inv }) c.at-3.ensures in
    raised_low s w.blocks (world w.pose (lowered c.args.p)).z (read c.at-3.result) r.voxel r.voxel_high w.blocks_low w.blocks_high (world_bound w.pose (lowered c.args.p) w.placed.range c.requires.near).z is

pub quotient-requires-3-clause-high : goal.quotient-requires-3-clause-high
quotient-requires-3-clause-high c =
    let w = c.args.self.now in
    let s = w.fields.voxel in
    let r = w.camera.ranges in
    let is = at_read (row_z w.pose) c.args.p w.pose.t.z (world_raise s w.blocks) c.at-3.result w.z w.form_z (record { sfits = c.at-3.type_inv }) c.at-3.ensures in
    raised_high s w.blocks (world w.pose (lowered c.args.p)).z (read c.at-3.result) r.voxel r.voxel_high w.blocks_low w.blocks_high (world_bound w.pose (lowered c.args.p) w.placed.range c.requires.near).z is

pub returns : goal.returns
returns c =
    let w = c.args.self.now in
    let s = w.fields.voxel in
    let r = w.camera.ranges in
    let p = world w.pose (lowered c.args.p) in
    let near = world_bound w.pose (lowered c.args.p) w.placed.range c.requires.near in
    let x = at_read (row_x w.pose) c.args.p w.pose.t.x (world_raise s w.blocks) c.at.result w.x w.form_x (record { sfits = c.at.type_inv }) c.at.ensures in
    let y = at_read (row_y w.pose) c.args.p w.pose.t.y (world_raise s w.blocks) c.at-2.result w.y w.form_y (record { sfits = c.at-2.type_inv }) c.at-2.ensures in
    let z = at_read (row_z w.pose) c.args.p w.pose.t.z (world_raise s w.blocks) c.at-3.result w.z w.form_z (record { sfits = c.at-3.type_inv }) c.at-3.ensures in
    record {
      x = quotient_is s w.blocks p.x (read c.at.result) w.reciprocal c.quotient.result r.voxel r.voxel_high w.blocks_low w.blocks_high near.x x w.parts c.quotient.ensures;
      y = quotient_is s w.blocks p.y (read c.at-2.result) w.reciprocal c.quotient-2.result r.voxel r.voxel_high w.blocks_low w.blocks_high near.y y w.parts c.quotient-2.ensures;
      z = quotient_is s w.blocks p.z (read c.at-3.result) w.reciprocal c.quotient-3.result r.voxel r.voxel_high w.blocks_low w.blocks_high near.z z w.parts c.quotient-3.ensures;
    }
