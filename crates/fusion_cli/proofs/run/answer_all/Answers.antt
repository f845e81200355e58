use Rattle.std.proofs.Common.{◌≡◌, ◌∙◌, ap, sym, arith}
use Rattle.std.proofs.lemmas.Result.{err_from_is_err_and}
use Rattle.scan_io.proofs.ReadingLemmas.{loses_feed, loses_more}
use Rattle.scan_lang.specs.Readers.{Reader}
use Rattle.scan_lang.specs.Replies.{text_of}
use Rattle.scan_lang.specs.Scan.{Read}
use Rattle.scan_lang.specs.declared.entry.Entry.{Entry}
use Rattle.session.specs.Answers.{state_of}
use Rattle.session.specs.Output.{reply_text}
use Rattle.fusion_cli.proofs.RunLemmas.{exit_entry, exit_memory, exit_write, exit_end, goes_further}
use Rattle.fusion_cli.proofs.run.answer_all.Goals as goal

abbrev read_by : Reader → Entry → Read
read_by r e = record { entry = e; left = r.left; offset = r.kept.given }

pub loop-init : goal.loop-init
loop-init g c = record {
  run = λ before empty run. run;
  lines = let n = c.requires.lines in omega (arith, n);
}

pub returns-in_err-entry : goal.returns-in_err-entry
returns-in_err-entry g c =
    let p = err_from_is_err_and c.from_residual.result c.from_residual.ensures.1 in
    λ before empty run. rw (p.1, p.2) (exit_entry c.loop.session.config (read_by c.next.new.self) c.in_err-entry.field-0.0 _ _ _ c.loop.reader.left c.loop.reader.kept.given (state_of c.loop.session) _ _ (loses_feed c.next.new.self.kept _) (c.loop.invariant.run before empty run) c.in_err-entry.ensures.entry)

pub returns-in_err-reply : goal.returns-in_err-reply
returns-in_err-reply g c =
    let p = err_from_is_err_and c.from_residual-in_err-reply.result c.from_residual-in_err-reply.ensures.1 in
    let read = c.in_ok-entry.ensures.entry in
    λ before empty run. rw (p.1, p.2) (exit_memory c.loop.session.config _ _ _ _ c.loop.reader.left c.loop.reader.kept.given (state_of c.loop.session) _ _ (loses_more read.front (loses_feed c.next.new.self.kept _)) read.faults (c.loop.invariant.run before empty run))

pub returns-in_err-bytes : goal.returns-in_err-bytes
returns-in_err-bytes g c =
    let p = err_from_is_err_and c.from_residual-in_err-bytes.result c.from_residual-in_err-bytes.ensures.1 in
    let read = c.in_ok-entry.ensures.entry in
    λ before empty run. rw (p.1, p.2) (exit_memory c.loop.session.config _ _ _ _ c.loop.reader.left c.loop.reader.kept.given (state_of c.loop.session) _ _ (loses_more read.front (loses_feed c.next.new.self.kept _)) read.faults (c.loop.invariant.run before empty run))

pub returns-in_err-put_reply : goal.returns-in_err-put_reply
returns-in_err-put_reply g c =
    let bytes : c.deref.result.now ≡ reply_text c.loop.session.config (state_of c.loop.session) c.in_ok-entry.entry = c.deref.ensures.value ∙ c.in_ok-bytes.ensures ∙ ap text_of c.in_ok-reply.ensures.reply in
    let put = c.in_err-put_reply.ensures in
    let p = err_from_is_err_and c.from_residual-in_err-put_reply.result c.from_residual-in_err-put_reply.ensures.1 in
    λ before empty run. rw (p.1, p.2, put.error) (exit_write c.loop.session.config (read_by c.next.new.self) c.in_ok-entry.entry _ _ _ c.loop.reader.left c.loop.reader.kept.given (state_of c.loop.session) _ _ _ put.front.0 (loses_feed c.next.new.self.kept _) (c.loop.invariant.run before empty run) c.in_ok-entry.ensures.entry (rw bytes at put.front.1) put.grows (record { later = put.cause.later; rose = put.cause.failed }))

pub returns-then-is_end : goal.returns-then-is_end
returns-then-is_end g c =
    let bytes : c.deref.result.now ≡ reply_text c.loop.session.config (state_of c.loop.session) c.in_ok-entry.entry = c.deref.ensures.value ∙ c.in_ok-bytes.ensures ∙ ap text_of c.in_ok-reply.ensures.reply in
    let put = c.in_ok-put_reply.ensures in
    λ before empty run. exit_end c.loop.session.config (read_by c.next.new.self) c.in_ok-entry.entry _ _ c.next.new.self.kept _ _ c.loop.reader.left c.loop.reader.kept.given (state_of c.loop.session) _ _ _ (sym c.is_end-is_end.ensures ∙ c.if-is_end.true) (c.loop.invariant.run before empty run) c.in_ok-entry.ensures.entry (rw bytes at put.all) put.grows put.cause.kept

pub loop-preserved : goal.loop-preserved
loop-preserved g c =
    let bytes : c.deref.result.now ≡ reply_text c.loop.session.config (state_of c.loop.session) c.in_ok-entry.entry = c.deref.ensures.value ∙ c.in_ok-bytes.ensures ∙ ap text_of c.in_ok-reply.ensures.reply in
    let put = c.in_ok-put_reply.ensures in
    record {
      run = λ before empty run. rw (c.in_ok-reply.ensures.config, c.in_ok-reply.ensures.state) (goes_further c.loop.session.config (read_by c.next.new.self) c.in_ok-entry.entry _ _ _ c.loop.reader.left c.loop.reader.kept.given (state_of c.loop.session) _ _ _ (sym c.is_end-is_end.ensures ∙ c.if-is_end.false) (c.loop.invariant.run before empty run) c.in_ok-entry.ensures.entry (rw bytes at put.all) put.grows put.cause.kept);
      lines = let n = c.loop.invariant.lines in let fewer = c.in_ok-entry.ensures.fewer in omega (arith, n, fewer);
    }

pub returns : goal.returns
returns g c = λ before empty run. let n = c.loop.invariant.lines in absurd (omega (arith, n))
