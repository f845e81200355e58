use Rattle.std.proofs.Common.{◌≡◌, ◌∙◌, refl, rules, sym}
use Rattle.std.specs.Prelude.{pos, ◌*ℤ◌}
use Rattle.std.proofs.lemmas.Int.{to_z-of_z}
use Rattle.camera.specs.Cameras.{within}
use Rattle.camera.specs.Opening.{camera_tests}
use Rattle.camera.proofs.RangeLemmas.{has_ranges}
use Rattle.camera.proofs.opening.failing_field.Goals as goal

pub returns-clause-value : goal.returns-clause-value
unfolding camera_tests
returns-clause-value c =
    let f = c.args.f in
    let width : c.is_between.result ≡ within (pos 1) (pos 2048) f.width = search (rules, to_z-of_z, c.is_between.ensures) in
    let height : c.is_between-2.result ≡ within (pos 1) (pos 2048) f.height = search (rules, to_z-of_z, c.is_between-2.ensures) in
    let fx : c.is_between-3.result ≡ within (pos 1) (pos 1073741824) f.fx = search (rules, to_z-of_z, c.is_between-3.ensures) in
    let fy : c.is_between-4.result ≡ within (pos 1) (pos 1073741824) f.fy = search (rules, to_z-of_z, c.is_between-4.ensures) in
    let cx : c.is_in_pixels.result ≡ within (pos 0) (pos 65536 *ℤ f.width) f.cx = search (rules, to_z-of_z, c.is_in_pixels.ensures) in
    let cy : c.is_in_pixels-2.result ≡ within (pos 0) (pos 65536 *ℤ f.height) f.cy = search (rules, to_z-of_z, c.is_in_pixels-2.ensures) in
    let unit : c.is_between-5.result ≡ within (pos 1) (pos 100000) f.unit = search (rules, to_z-of_z, c.is_between-5.ensures) in
    let near : c.is_between-6.result ≡ within (pos 1) (pos 16000000) f.near = search (rules, to_z-of_z, c.is_between-6.ensures) in
    let far : c.is_between-7.result ≡ within f.near (pos 16000000) f.far = search (rules, to_z-of_z, c.is_between-7.ensures) in
    let voxel : c.is_between-8.result ≡ within (pos 1000) (pos 100000) f.voxel = search (rules, to_z-of_z, c.is_between-8.ensures) in
    let mu : c.is_between-9.result ≡ within f.voxel (pos 1000000) f.mu = search (rules, to_z-of_z, c.is_between-9.ensures) in
    let radius : c.is_between-10.result ≡ within (pos 1) (pos 100000000) f.radius = search (rules, to_z-of_z, c.is_between-10.ensures) in
    let centre : c.is_between-11.result ≡ within (pos 0) (pos 17000000) f.centre = search (rules, to_z-of_z, c.is_between-11.ensures) in
    rw (c.first_failing.ensures, width, height, fx, fy, cx, cy, unit, near, far, voxel, mu, radius, centre) refl

pub returns-clause-ranges : goal.returns-clause-ranges
returns-clause-ranges c = λ none. has_ranges c.args.f (sym (returns-clause-value c) ∙ none)
