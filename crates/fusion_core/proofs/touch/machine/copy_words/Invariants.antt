use Rattle.std.proofs.Common.{◌≡◌, ◌+◌, take}
use Rattle.std.specs.Prelude.{vec_len, vec_capacity}
use Rattle.fusion_core.proofs.touch.machine.copy_words.Given as goal

abbrev pub invariant-loop-word : goal.invariant-loop-word
invariant-loop-word l = record {
  copied : l.words.items ≡ take l.word l.table.words;
  len : vec_len l.words ≡ l.word;
  room : vec_capacity l.words ≡ l.count + 1;
}
