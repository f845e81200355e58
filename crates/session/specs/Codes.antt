-- How values are stored, which Rattle asks for; no contract cites it.
use Rattle.std.specs.Prelude.{ℕ, ℤ, Option, refl}
use Rattle.std.specs.Coded.{Coded, code_by, coded×, coded_ℕ, coded_ℤ, coded_option}
use Rattle.fixed_geom.specs.declared.vector.Vec3.{Vec3}
use Rattle.fixed_geom.specs.Vectors.{vec}
use Rattle.fixed_geom.specs.Poses.{Pose, of_rows, row_x, row_y, row_z}
use Rattle.streamer.specs.Codes.{coded_places}
use Rattle.streamer.specs.Places.{Places}
use Rattle.camera.specs.declared.camera.CameraFields.{CameraFields}
use Rattle.scan_lang.specs.Config.{Config}
use Rattle.session.specs.Answers.{SessionView}

-- a point is stored as its coordinates
abbrev coded_point : Coded Vec3
coded_point = code_by (ℤ × (ℤ × ℤ)) (coded× coded_ℤ (coded× coded_ℤ coded_ℤ)) (λ p. (p.x, (p.y, p.z))) (λ p. vec p.0 p.1.0 p.1.1) (λ _. refl)

-- a pose is stored as its rows
abbrev coded_pose : Coded Pose
coded_pose = code_by (Vec3 × (Vec3 × (Vec3 × Vec3))) (coded× coded_point (coded× coded_point (coded× coded_point coded_point))) (λ m. (row_x m, (row_y m, (row_z m, m.t)))) (λ p. of_rows p.0 p.1.0 p.1.1.0 p.1.1.1) (λ _. refl)

-- a camera is stored as its fields
abbrev coded_camera : Coded CameraFields
coded_camera = code_by
    (ℤ × (ℤ × (ℤ × (ℤ × (ℤ × (ℤ × (ℤ × (ℤ × (ℤ × (ℤ × (ℤ × (ℤ × ℤ))))))))))))
    (coded× coded_ℤ (coded× coded_ℤ (coded× coded_ℤ (coded× coded_ℤ (coded× coded_ℤ (coded× coded_ℤ (coded× coded_ℤ (coded× coded_ℤ (coded× coded_ℤ (coded× coded_ℤ (coded× coded_ℤ (coded× coded_ℤ coded_ℤ))))))))))))
    (λ k. (k.width, (k.height, (k.fx, (k.fy, (k.cx, (k.cy, (k.unit, (k.near, (k.far, (k.voxel, (k.mu, (k.radius, k.centre)))))))))))))
    (λ p. record {
      width = p.0;
      height = p.1.0;
      fx = p.1.1.0;
      fy = p.1.1.1.0;
      cx = p.1.1.1.1.0;
      cy = p.1.1.1.1.1.0;
      unit = p.1.1.1.1.1.1.0;
      near = p.1.1.1.1.1.1.1.0;
      far = p.1.1.1.1.1.1.1.1.0;
      voxel = p.1.1.1.1.1.1.1.1.1.0;
      mu = p.1.1.1.1.1.1.1.1.1.1.0;
      radius = p.1.1.1.1.1.1.1.1.1.1.1.0;
      centre = p.1.1.1.1.1.1.1.1.1.1.1.1;
    })
    (λ _. refl)

-- a configuration is stored as its fields
abbrev coded_config : Coded Config
coded_config = code_by
    (ℕ × (CameraFields × (ℕ × (ℕ × (ℕ × ℤ)))))
    (coded× coded_ℕ (coded× coded_camera (coded× coded_ℕ (coded× coded_ℕ (coded× coded_ℕ coded_ℤ)))))
    (λ c. (c.version, (c.camera, (c.max_weight, (c.heap_blocks, (c.buckets, c.empty_f))))))
    (λ p. record { version = p.0; camera = p.1.0; max_weight = p.1.1.0; heap_blocks = p.1.1.1.0; buckets = p.1.1.1.1.0; empty_f = p.1.1.1.1.1 })
    (λ _. refl)

-- a session is stored as its fields
abbrev pub coded_session : Coded SessionView
coded_session = code_by (Config × (Places × (ℕ × Option Pose))) (coded× coded_config (coded× coded_places (coded× coded_ℕ (coded_option coded_pose)))) (λ h. (h.config, (h.places, (h.frames, h.last)))) (λ p. record { config = p.0; places = p.1.0; frames = p.1.1.0; last = p.1.1.1 }) (λ _. refl)
