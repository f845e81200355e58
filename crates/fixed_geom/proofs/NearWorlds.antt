-- Machine numbers in the world point of a near point.
use Rattle.std.proofs.Common.{◌≡◌, ◌∙◌, arith}
use Rattle.std.specs.Prelude.{ℤ, pos, ◌+ℤ◌}
use Rattle.std.proofs.lemmas.Int.{to_z-of_z, ints}
use mir.Val.{SFits}
use mir.Syntax.{w64}
use Rattle.fixed_geom.specs.declared.vector.Vec3.{Vec3}
use Rattle.fixed_geom.specs.Division.{floor_div}
use Rattle.fixed_geom.specs.Vectors.{IsWithin, dot}
use Rattle.fixed_geom.specs.Poses.{translation_bound, unit}
use Rattle.fixed_geom.proofs.Machine.{read}

-- a coordinate of the translation, and whole micrometres
pub moved_fits : (t q : ℤ) → IsWithin translation_bound t → IsWithin (pos 8589934592) q → SFits w64 (read t +ℤ read q)
moved_fits t q v w = omega (arith, ints)

pub moved_is : (t q : ℤ) → IsWithin translation_bound t → IsWithin (pos 8589934592) q → read (read t +ℤ read q) ≡ t +ℤ q
moved_is t q v w = omega (arith, ints)

-- a coordinate of the world point, read as 64 bits
pub near_world_is : (r t : ℤ) (row c : Vec3) → SFits w64 r → IsWithin translation_bound t → r ≡ read t +ℤ floor_div (dot row c) unit → read r ≡ t +ℤ floor_div (dot row c) unit
near_world_is r t row c f w e =
    let same : read t ≡ t = omega (arith, ints) in
    to_z-of_z w64 r f ∙ e ∙ (λ i. same i +ℤ floor_div (dot row c) unit)
