use Rattle.std.proofs.Common.{◌≡◌, ◌≤◌, ◌∙◌, ap, sym, subst, arith}
use Rattle.std.specs.Prelude.{ℤ, pos, ◌+ℤ◌, ◌*ℤ◌, ◌≤ℤ◌}
use Rattle.std.proofs.lemmas.Int.{ints}
use Rattle.fixed_geom.specs.Vectors.{IsWithin}
use Rattle.camera.proofs.Readings.{fields_read}
use Rattle.ray_walk.specs.Points.{point_depth}
use Rattle.ray_walk.proofs.PointLemmas.{depth_far, depth_near, few_points, product_low, read, read_few, read_sum}
use Rattle.ray_walk.proofs.points.point_depth.Goals as goal

number : (c : goal.After-from) → read c.from.result ≡ pos c.args.j
number c = read_few c.args.j c.from.result (few_points c.args.camera.now c.args.j c.requires.ranges c.requires.point) c.from.ensures

pub times-requires-clause-n : goal.times-requires-clause-n
times-requires-clause-n c =
    let few : c.args.j ≤ 15999 = few_points c.args.camera.now c.args.j c.requires.ranges c.requires.point in
    subst (IsWithin (pos 32768)) (sym (number c)) (record { low = omega (arith, ints); high = omega (arith, ints) })

is : (c : goal.After-times) → read (read c.args.camera.now.near +ℤ read c.times.result) ≡ point_depth c.args.camera.now c.args.j
is c =
    let k = c.args.camera.now in
    let r = c.requires.ranges in
    let j = c.args.j in
    let n : read c.from.result ≡ pos j = read_few j c.from.result (few_points k j r c.requires.point) c.from.ensures in
    let product : c.times.result ≡ k.voxel *ℤ pos j = c.times.ensures.value ∙ (λ i. (fields_read k r).voxel i *ℤ n i) in
    ap (λ (q : ℤ). read (read k.near +ℤ read q)) product
    ∙ read_sum k.near (k.voxel *ℤ pos j) k.far r.near (product_low k.voxel j (omega (arith, ints, r.voxel))) (depth_far k j r c.requires.point) (omega (arith, ints, r.far_high))

pub returns-clause-value : goal.returns-clause-value
returns-clause-value = is

pub returns-clause-near : goal.returns-clause-near
returns-clause-near c = subst (λ (z : ℤ). c.args.camera.now.near ≤ℤ z) (sym (is c)) (depth_near c.args.camera.now c.args.j c.requires.ranges)

pub returns-clause-far : goal.returns-clause-far
returns-clause-far c = subst (λ (z : ℤ). z ≤ℤ c.args.camera.now.far) (sym (is c)) (depth_far c.args.camera.now c.args.j c.requires.ranges c.requires.point)
