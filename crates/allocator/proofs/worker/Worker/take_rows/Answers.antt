use Rattle.std.proofs.Common.{◌<◌, ap, sym, subst, ◌∙◌, arith}
use Rattle.std.specs.Prelude.{Ok}
use Rattle.band_walk.specs.Bands.{band, row_blocks}
use Rattle.allocator.specs.Work.{IsDealt}
use Rattle.allocator.proofs.Adding.{adds_within, none_from, not_none, only_more, still_touched}
use Rattle.allocator.proofs.Dealing.{more_rows, row_in_band}
use Rattle.allocator.proofs.worker.Worker.take_rows.Goals as goal

pub returns-then-is_some : goal.returns-then-is_some
returns-then-is_some g c =
    let w = g.B.Rows.shown c.args.rows.now in
    let took = c.in_ok-spent.ensures in
    let low : c.loop-v.v < w.depths.height = (let end = c.height-v-end.ensures in let t = c.loop-v-test.true in omega (arith, end, t)) in
    record {
      belongs = took.belongs;
      part = took.part ∙ c.loop-v.invariant.part;
      only = only_more (band w) c.loop-v.self.seat.knows c.take_row.new.self.seat.knows (adds_within (row_blocks w c.loop-v.v) (band w) _ _ (λ b has. row_in_band w c.loop-v.v b low has) took.adds) c.loop-v.invariant.only;
      all = λ none. absurd (not_none c.in_ok-spent.spent (sym c.is_some.ensures ∙ c.if-is_some.true) none);
      spent = took.spent;
    }

pub loop-v-preserved : goal.loop-v-preserved
loop-v-preserved g c =
    let w = g.B.Rows.shown c.args.rows.now in
    let n = c.args.workers in
    let x = c.loop-v.self.seat.knows in
    let y = c.take_row.new.self.seat.knows in
    let took = c.in_ok-spent.ensures in
    let low : c.loop-v.v < w.depths.height = (let end = c.height-v-end.ensures in let t = c.loop-v-test.true in omega (arith, end, t)) in
    let none = none_from c.in_ok-spent.spent (sym c.is_some.ensures ∙ c.if-is_some.false) in
    record {
      belongs = took.belongs;
      part = took.part ∙ c.loop-v.invariant.part;
      number = c.take_row.ensures.number ∙ c.loop-v.invariant.number;
      noted = took.noted (ap Ok none);
      only = only_more (band w) x y (adds_within (row_blocks w c.loop-v.v) (band w) x y (λ b has. row_in_band w c.loop-v.v b low has) took.adds) c.loop-v.invariant.only;
      rows = more_rows w n c.args.self.now.number 1 c.loop-v.v x y (λ b h. still_touched (row_blocks w c.loop-v.v) x y b took.adds h) c.loop-v.invariant.rows (λ dealt. took.all (ap Ok none) (subst (λ k. IsDealt n k 1 c.loop-v.v) (sym c.loop-v.invariant.number) dealt));
    }

pub returns : goal.returns
returns g c =
    let w = g.B.Rows.shown c.args.rows.now in
    record {
      belongs = c.loop-v.invariant.belongs;
      part = c.loop-v.invariant.part;
      only = c.loop-v.invariant.only;
      all = λ none r low dealt. c.loop-v.invariant.rows r (let end = c.height-v-end.ensures in let past = c.loop-v-test.false in omega (arith, end, past, low)) dealt;
      spent = λ d some. absurd (cc);
    }
