use Rattle.std.proofs.Common.{sym, ap, ◌∙◌}
use Rattle.fixed_geom.specs.Vectors.{vec}
use Rattle.crossing_export.specs.declared.crossing.Axis.{Axis}
use Rattle.crossing_export.specs.Crossings.{crossing_of, moved}
use Rattle.crossing_export.proofs.PointLemmas.{coordinate_read, sum_read}
use Rattle.crossing_export.proofs.crossing.moved.Goals as goal

pub returns-in-X : goal.returns-in-X
returns-in-X c =
    let p = c.args.p in
    let x = sum_read p.x c.args.d c.requires.p.x c.requires.low c.requires.high in
    let y = coordinate_read p.y c.requires.p.y in
    let z = coordinate_read p.z c.requires.p.z in
    c.as_crossing.ensures ∙ (λ i. crossing_of (vec (x i) (y i) (z i))) ∙ sym (ap (λ (a : Axis). crossing_of (moved a c.args.d p)) c.in-X.is)

pub returns-in-Y : goal.returns-in-Y
returns-in-Y c =
    let p = c.args.p in
    let x = coordinate_read p.x c.requires.p.x in
    let y = sum_read p.y c.args.d c.requires.p.y c.requires.low c.requires.high in
    let z = coordinate_read p.z c.requires.p.z in
    c.as_crossing-in-Y.ensures ∙ (λ i. crossing_of (vec (x i) (y i) (z i))) ∙ sym (ap (λ (a : Axis). crossing_of (moved a c.args.d p)) c.in-Y.is)

pub returns-in-Z : goal.returns-in-Z
returns-in-Z c =
    let p = c.args.p in
    let x = coordinate_read p.x c.requires.p.x in
    let y = coordinate_read p.y c.requires.p.y in
    let z = sum_read p.z c.args.d c.requires.p.z c.requires.low c.requires.high in
    c.as_crossing-in-Z.ensures ∙ (λ i. crossing_of (vec (x i) (y i) (z i))) ∙ sym (ap (λ (a : Axis). crossing_of (moved a c.args.d p)) c.in-Z.is)
