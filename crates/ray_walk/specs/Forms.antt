-- The linear forms of a pose.
use Rattle.std.specs.Prelude.{◌≡◌, ℤ, ◌+ℤ◌, ◌-ℤ◌, ◌*ℤ◌}
use Rattle.fixed_geom.specs.declared.vector.Vec3.{Vec3}
use Rattle.fixed_geom.specs.Poses.{unit}
use Rattle.ray_walk.specs.declared.form.Form.{Form}
use Rattle.ray_walk.specs.Raising.{ray_raise}

-- a form has row r of a rotation; its start is the coordinate t of the translation, raised, less what the products gain where a ray's point is raised
pub record IsForm (r : Vec3) (t raise : ℤ) (a : Form) : Type 0 where
  pub row : a.row ≡ r
  pub start : a.start ≡ (unit *ℤ (t +ℤ raise) -ℤ r.x *ℤ ray_raise) -ℤ r.y *ℤ ray_raise
