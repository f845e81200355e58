use Rattle.std.proofs.Common.{◌≡◌, ap, length, arith}
use Rattle.std.proofs.lemmas.Bool.Decides.{nat_tests}
use Rattle.scan_lang.specs.Spans.{words_with, words_from}
use Rattle.scan_lang.proofs.WordLemmas.{count_with}
use Rattle.scan_lang.proofs.words.has_words.Goals as goal

pub loop-preserved : goal.loop-preserved
loop-preserved c =
    let size : length (words_from c.loop.next c.args.line.now) ≡ length (words_with c.args.line.now c.next_word-word.result) = ap length c.next_word-word.ensures.words in
    record {
      count = grind (arith, nat_tests, size, count_with c.args.line.now c.next_word-word.result, c.loop.invariant.count);
      bound = omega arith;
    }
