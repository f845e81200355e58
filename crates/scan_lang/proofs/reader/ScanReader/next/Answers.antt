use Rattle.std.proofs.Common.{◌≡◌, ◌-◌, suc, refl, sym, ap, Ok, Err, Some, None, arith}
use Rattle.std.proofs.lemmas.Result.{err_from_is_err_and}
use Rattle.scan_io.proofs.ReadingLemmas.{came_same, came_step, came_err, came_bad, came_last}
use Rattle.scan_lang.specs.Offsets.{fault}
use Rattle.scan_lang.specs.Words.{head_of}
use Rattle.scan_lang.specs.Readers.{scan_errors, Reader}
use Rattle.scan_lang.specs.Scan.{entry_at, entry_with}
use Rattle.scan_lang.specs.declared.error.ScanError.TheVariants.{Bad}
use Rattle.scan_lang.specs.declared.error.BadWhat.TheVariants.{Lines}
use Rattle.scan_lang.proofs.ReaderLemmas.{line_came, line_lost, entry_blank, entry_head, entry_bad, too_many, end_split}
use Rattle.scan_lang.proofs.reader.ScanReader.next.Goals as goal

pub returns-in_err-line-clause-entry : goal.returns-in_err-line-clause-entry
returns-in_err-line-clause-entry g c =
    let p = err_from_is_err_and c.from_residual.result c.from_residual.ensures.1 in
    let more : c.loop.self-inside.left ≡ suc (c.loop.self-inside.left - 1) = omega (arith, ap (λ (r : Reader). r.left) c.self.view_is) in
    rw (p.1, p.2) (line_lost _ c.loop.self-inside.left (c.loop.self-inside.left - 1) c.loop.self-inside.feed.given more c.loop.invariant.came c.in_err-line.ensures.line)

pub returns-in_err-head-clause-entry : goal.returns-in_err-head-clause-entry
returns-in_err-head-clause-entry g c =
    let p = err_from_is_err_and c.from_residual-in_err-head.result c.from_residual-in_err-head.ensures.1 in
    let more : c.loop.self-inside.left ≡ suc (c.loop.self-inside.left - 1) = omega (arith, ap (λ (r : Reader). r.left) c.self.view_is) in
    let head : head_of c.loop.self-inside.feed.given c.in_ok-line.line.items ≡ Err c.in_err-head.field-0.0 = sym (rw (c.place-offset.ensures, c.deref.ensures.value) at c.in_err-head.ensures) in
    rw (p.1, p.2) (came_bad scan_errors _ c.in_err-head.field-0.0 (Bad c.in_err-head.field-0.0) refl
    (line_came c.loop.self-inside.left (c.loop.self-inside.left - 1) c.loop.self-inside.feed.given more c.loop.invariant.came c.in_ok-line.ensures.line)
    (entry_bad (c.loop.self-inside.left - 1) c.loop.self-inside.feed.given c.in_ok-line.line.items c.in_err-head.field-0.0 head))

pub returns-in-Some-clause-entry : goal.returns-in-Some-clause-entry
returns-in-Some-clause-entry g c =
    let more : c.loop.self-inside.left ≡ suc (c.loop.self-inside.left - 1) = omega (arith, ap (λ (r : Reader). r.left) c.self.view_is) in
    let head : head_of c.loop.self-inside.feed.given c.in_ok-line.line.items ≡ Ok (Some c.in-Some.head) = sym (rw (c.place-offset.ensures, c.deref.ensures.value, c.in-Some.is) at c.in_ok-head.ensures) in
    came_last (entry_with (c.loop.self-inside.left - 1) c.read_line.new.feed.given c.in-Some.head) c.read_entry.result
    (came_same (entry_with (c.loop.self-inside.left - 1) c.read_line.new.feed.given c.in-Some.head)
    (line_came c.loop.self-inside.left (c.loop.self-inside.left - 1) c.loop.self-inside.feed.given more c.loop.invariant.came c.in_ok-line.ensures.line)
    (entry_head (c.loop.self-inside.left - 1) c.loop.self-inside.feed.given c.read_line.new.feed.given c.in_ok-line.line.items c.in-Some.head head c.in_ok-line.ensures.offset))
    (c.read_entry.ensures (c.loop.self-inside.left - 1)) (λ t. refl)

pub loop-preserved : goal.loop-preserved
loop-preserved g c =
    let more : c.loop.self-inside.left ≡ suc (c.loop.self-inside.left - 1) = omega (arith, ap (λ (r : Reader). r.left) c.self.view_is) in
    let head : head_of c.loop.self-inside.feed.given c.in_ok-line.line.items ≡ Ok None = sym (rw (c.place-offset.ensures, c.deref.ensures.value, c.in_default.is) at c.in_ok-head.ensures) in
    record {
      came = came_same (entry_at (c.loop.self-inside.left - 1) c.read_line.new.feed.given)
          (line_came c.loop.self-inside.left (c.loop.self-inside.left - 1) c.loop.self-inside.feed.given more c.loop.invariant.came c.in_ok-line.ensures.line)
          (entry_blank (c.loop.self-inside.left - 1) c.loop.self-inside.feed.given c.read_line.new.feed.given c.in_ok-line.line.items head c.in_ok-line.ensures.offset);
      count = omega arith;
    }

pub returns-in_err-next_byte-clause-entry : goal.returns-in_err-next_byte-clause-entry
returns-in_err-next_byte-clause-entry g c =
    let p = err_from_is_err_and c.from_residual-in_err-next_byte.result c.from_residual-in_err-next_byte.ensures.1 in
    let none : c.loop.self-inside.left ≡ 0 = omega (arith, ap (λ (r : Reader). r.left) c.self.view_is) in
    rw (p.1, p.2) (came_err _ (too_many c.loop.self-inside.feed.given) c.loop.invariant.came c.in_err-next_byte.ensures.byte (end_split c.loop.self-inside.left c.loop.self-inside.feed.given none))

pub returns-clause-entry : goal.returns-clause-entry
returns-clause-entry g c =
    let none : c.loop.self-inside.left ≡ 0 = omega (arith, ap (λ (r : Reader). r.left) c.self.view_is) in
    came_bad scan_errors _ (fault Lines c.place-offset-2.result) (Bad (fault Lines c.place-offset-2.result)) refl
    (came_step (too_many c.loop.self-inside.feed.given) c.loop.invariant.came c.in_ok-next_byte.ensures.byte (end_split c.loop.self-inside.left c.loop.self-inside.feed.given none))
    (λ t. rw c.place-offset-2.ensures refl)
