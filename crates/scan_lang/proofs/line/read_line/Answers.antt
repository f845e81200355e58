use Rattle.std.proofs.Common.{◌≡◌, ◌∷◌, [], length, length-append, ap, ◌∙◌, refl, arith}
use Rattle.std.proofs.lemmas.Result.{err_from_is_err_and}
use Rattle.scan_io.proofs.ReadingLemmas.{came_none, came_err, came_ok, came_bad, reads_memory}
use Rattle.scan_lang.proofs.LineLemmas.{plain_none, plain_more, line_next, line_split, line_end, line_long, byte_came}
use Rattle.scan_lang.specs.Readers.{scan_errors}
use Rattle.scan_lang.specs.Offsets.{offset_after}
use Rattle.scan_lang.specs.Lines.{long, first_line}
use Rattle.scan_lang.specs.declared.error.ScanError.TheVariants.{Bad, NoMemory}
use Rattle.scan_lang.proofs.line.read_line.Goals as goal

pub loop-init : goal.loop-init
loop-init g c = record {
  came = rw c.new-line.ensures.items (came_none (first_line c.args.limit c.args.feed.now.given) _);
  plain = rw c.new-line.ensures.items plain_none;
  size = ap length c.new-line.ensures.items;
  offset = omega (arith, ap length c.new-line.ensures.items);
}

pub returns-in_err-byte-clause-line : goal.returns-in_err-byte-clause-line
returns-in_err-byte-clause-line g c =
    let p = err_from_is_err_and c.from_residual.result c.from_residual.ensures.1 in
    rw (p.1, p.2) (came_err (λ v. v.items) (line_next c.args.limit c.args.feed.now.given c.loop.line.items) c.loop.invariant.came c.in_err-byte.ensures.byte
    (line_split c.args.limit c.args.feed.now.given c.loop.feed.given c.loop.line.items c.loop.invariant.plain (omega arith) c.loop.invariant.offset))

pub returns-then-byte-eq10-clause-line : goal.returns-then-byte-eq10-clause-line
returns-then-byte-eq10-clause-line g c =
    came_ok (λ v. v.items) c.loop.line
    (rw c.if-byte-eq10.true at (byte_came c.args.limit c.args.feed.now.given c.loop.feed.given c.loop.line.items c.loop.invariant.plain (omega arith) c.loop.invariant.offset c.loop.invariant.came c.in_ok-byte.ensures.byte))
    (line_end c.args.limit c.args.feed.now.given c.loop.line.items c.loop.invariant.plain (omega arith))

pub returns-then-byte-eq10-clause-offset : goal.returns-then-byte-eq10-clause-offset
returns-then-byte-eq10-clause-offset g c = omega (arith, c.in_ok-byte.ensures.offset)

pub returns-in_err-push-clause-line : goal.returns-in_err-push-clause-line
returns-in_err-push-clause-line g c =
    let p = err_from_is_err_and c.from_residual-in_err-push.result c.from_residual-in_err-push.ensures.1 in
    rw (p.1, p.2) (reads_memory scan_errors (λ v. v.items) NoMemory refl
    (byte_came c.args.limit c.args.feed.now.given c.loop.feed.given c.loop.line.items c.loop.invariant.plain (omega arith) c.loop.invariant.offset c.loop.invariant.came c.in_ok-byte.ensures.byte))

pub loop-preserved : goal.loop-preserved
loop-preserved g c =
    let size = ap length c.in_ok-push.ensures.items ∙ length-append c.loop.line.items (c.in_ok-byte.byte ∷ []) in
    record {
      came = rw c.in_ok-push.ensures.items (byte_came c.args.limit c.args.feed.now.given c.loop.feed.given c.loop.line.items c.loop.invariant.plain (omega arith) c.loop.invariant.offset c.loop.invariant.came c.in_ok-byte.ensures.byte);
      plain = rw c.in_ok-push.ensures.items (plain_more c.loop.line.items c.in_ok-byte.byte c.loop.invariant.plain c.if-byte-eq10.false);
      size = omega (arith, size);
      offset = omega (arith, size, c.in_ok-byte.ensures.offset);
    }

pub returns-clause-line : goal.returns-clause-line
returns-clause-line g c =
    let far : c.saturating_add.result ≡ offset_after c.args.feed.now.given c.args.limit = omega arith in
    rw far (came_bad scan_errors (λ v. v.items) (long c.args.limit c.args.feed.now.given) (Bad (long c.args.limit c.args.feed.now.given)) refl c.loop.invariant.came
    (line_long c.args.limit c.args.feed.now.given c.loop.line.items c.loop.invariant.plain (omega arith)))
