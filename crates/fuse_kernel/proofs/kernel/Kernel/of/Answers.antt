use Rattle.std.proofs.Common.{◌∙◌, ap, subst, sym}
use Rattle.std.specs.Prelude.{pos}
use Rattle.camera.specs.declared.camera.CameraFields.{CameraFields}
use Rattle.camera.specs.Cameras.{HasRanges}
use Rattle.camera.proofs.Readings.{IsRead, fields_read}
use Rattle.fuse_kernel.proofs.UpdateLemmas.{mu_positive, mu_read_positive, mu_within, size_read}
use Rattle.fuse_kernel.proofs.kernel.Kernel.of.Goals as goal

pub of-requires-3-clause-least : goal.of-requires-3-clause-least
of-requires-3-clause-least c =
    let k = c.fields-k.result in
    let r : HasRanges k = subst HasRanges (sym c.fields-k.ensures.value) c.fields-k.ensures.camera.ranges in
    mu_read_positive k.mu (mu_within k r) (mu_positive k r)

pub invariant_of-result : goal.invariant_of-result
invariant_of-result c =
    let k = c.fields-k.result in
    let r : HasRanges k = subst HasRanges (sym c.fields-k.ensures.value) c.fields-k.ensures.camera.ranges in
    let same = c.fields-k.ensures.value in
    let read : IsRead k = fields_read k r in
    record {
      weight = c.requires;
      width = ap pos c.of.ensures.size ∙ size_read k.width r.width r.width_high ∙ ap (λ (k : CameraFields). k.width) same;
      fx = c.of.ensures.f ∙ read.fx ∙ ap (λ (k : CameraFields). k.fx) same;
      cx = c.of.ensures.c ∙ read.cx ∙ ap (λ (k : CameraFields). k.cx) same;
      height = ap pos c.of-2.ensures.size ∙ size_read k.height r.height r.height_high ∙ ap (λ (k : CameraFields). k.height) same;
      fy = c.of-2.ensures.f ∙ read.fy ∙ ap (λ (k : CameraFields). k.fy) same;
      cy = c.of-2.ensures.c ∙ read.cy ∙ ap (λ (k : CameraFields). k.cy) same;
      mu = c.of-3.ensures ∙ read.mu ∙ ap (λ (k : CameraFields). k.mu) same;
    }
