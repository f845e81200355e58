use Rattle.std.proofs.Common.{◌∙◌, ap, sym}
use Rattle.band_walk.specs.Bands.{segment_point}
use Rattle.band_walk.proofs.SampleLemmas.{first_sample, last_sample}
use Rattle.band_walk.proofs.segment.Segment.sample.Goals as goal

pub returns-then-j-eq0-clause-value : goal.returns-then-j-eq0-clause-value
returns-then-j-eq0-clause-value c =
    let s = c.args.self in
    first_sample s.start s.end s.n s.least ∙ ap (segment_point s.start s.end s.n) (sym c.if-j-eq0.true)

pub returns-then-j-self-clause-value : goal.returns-then-j-self-clause-value
returns-then-j-self-clause-value c =
    let s = c.args.self in
    last_sample s.start s.end s.n s.least ∙ ap (segment_point s.start s.end s.n) (sym c.if-j-self.true)
