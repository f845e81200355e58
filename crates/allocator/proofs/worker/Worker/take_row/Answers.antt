use Rattle.std.proofs.Common.{subst}
use Rattle.band_walk.specs.Bands.{row_blocks}
use Rattle.allocator.specs.Work.{Adds, TouchedAll}
use Rattle.allocator.proofs.Adding.{adds_within, none_of, noted_next, row_touched}
use Rattle.allocator.proofs.worker.Worker.take_row.Goals as goal

pub returns-clause-adds : goal.returns-clause-adds
returns-clause-adds g c =
    let v = c.args.self.now.seat.knows in
    let w = c.touch_all.new.seat.knows in
    let adds = subst (λ ks. Adds ks v w) c.deref.ensures.value c.touch_all.ensures.adds in
    adds_within c.new_keys.new.keys.items (row_blocks (g.B.Rows.shown c.args.rows.now) c.args.v) v w c.in_ok-new_keys.ensures.only adds

pub returns-clause-all : goal.returns-clause-all
returns-clause-all g c = λ none dealt.
    let v = c.args.self.now.seat.knows in
    let w = c.touch_all.new.seat.knows in
    let adds = subst (λ ks. Adds ks v w) c.deref.ensures.value c.touch_all.ensures.adds in
    let all = subst (λ ks. TouchedAll ks w) c.deref.ensures.value (c.touch_all.ensures.all (none_of c.touch_all.result none)) in
    row_touched c.args.self.now.memo (row_blocks (g.B.Rows.shown c.args.rows.now) c.args.v) c.new_keys.new.keys.items v w c.requires.noted adds all c.in_ok-new_keys.ensures.found

pub returns-clause-noted : goal.returns-clause-noted
returns-clause-noted g c = λ none.
    let v = c.args.self.now.seat.knows in
    let w = c.touch_all.new.seat.knows in
    let adds = subst (λ ks. Adds ks v w) c.deref.ensures.value c.touch_all.ensures.adds in
    let all = subst (λ ks. TouchedAll ks w) c.deref.ensures.value (c.touch_all.ensures.all (none_of c.touch_all.result none)) in
    noted_next c.args.self.now.memo (row_blocks (g.B.Rows.shown c.args.rows.now) c.args.v) c.new_keys.new.keys.items v w c.requires.noted adds all c.new_keys.new.memo c.new_keys.ensures.noted
