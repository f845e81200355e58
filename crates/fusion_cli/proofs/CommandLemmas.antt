-- A run over a text that is made.
use Rattle.std.proofs.Common.{◌≡◌, ◌≢◌, ℕ, Bool, true, false, List, [], Option, None, Some, map, string_bytes, drop, inl, inr, refl, sym, ap, subst, arith}
use Rattle.std.proofs.KnownBytes.{Appends-nil}
use Rattle.std.specs.Prelude.{Ok, Err, IsOkAnd, MatchResult, String, if◌then◌else◌}
use Rattle.std.specs.IoError.{error_kind}
use Rattle.std.specs.Vec.Iter.{into_iter_items}
use Rattle.std.specs.declared.alloc.Global.{Global}
use Rattle.std.proofs.lemmas.Bool.{true≢false}
use Rattle.scan_io.specs.Coming.{LosesFront}
use Rattle.command_words.specs.Words.{command_of}
use Rattle.command_words.specs.declared.words.Command.{Command}
use Rattle.command_words.specs.declared.words.Command.TheVariants.{Fuse, Demo}
use Rattle.scan_gen.specs.Generated.{generated_scan}
use Rattle.fusion_cli.specs.Program.{Arguments, command_in, is_out_of_memory}
use Rattle.fusion_cli.specs.Run.{Answered, Answers, CountsReads, IsDemo, IsRisen, IsRun, Ran, Told, told}
use Rattle.fusion_cli.specs.declared.status.Status.{Status}
use Rattle.fusion_cli.specs.declared.status.Status.TheVariants.{NoMemory, ReadFault, Usage}

-- a source whose count of faults stays 0 did not fail
did_not_fail : (status : Status) → CountsReads 0 0 status → status ≢ ReadFault
did_not_fail status h is = let risen : IsRisen 0 0 = subst (CountsReads 0 0) is h in let r = risen.rose in absurd (omega (arith, r))

told_rest : (text : List ℕ) (left : Option (List ℕ)) → LosesFront (Some text) left → (rest : List ℕ) × (left ≡ Some rest)
told_rest text None h = absurd (true≢false (sym h.telling))
told_rest text (Some rest) h = (rest, refl)

-- where the source tells a text and does not fail, a run is one over that text
pub demo_run : (text : List ℕ) (left : Option (List ℕ)) (sink grown : Told) (status : Status) → IsRun (told (Some text) 0) (told left 0) sink grown status → IsDemo text sink grown status
demo_run text left sink grown status run =
    let rest = told_rest text left run.front in
    record {
      answer = (did_not_fail status run.reads, (rest.0, subst (λ (l : Option (List ℕ)). Ran text l sink.bytes grown.bytes status) rest.1 run.answer));
      grows = run.grows;
      writes = run.writes;
    }

-- the command in arguments is that of the words after the first
pub command_is : (args : Arguments) (words : List (String Global)) → IsOkAnd args (λ a. words ≡ drop 1 (into_iter_items a)) → command_in args ≡ command_of (map string_bytes words)
command_is (Ok a) words is = ap (λ ws. command_of (map string_bytes ws)) (sym is)
command_is (Err e) words is = absurd is

-- ---- a program that runs no command

none_ran : (text : List ℕ) (left old : Option (List ℕ)) → Ran text left old old NoMemory
none_ran text left old = (0, Appends-nil old)

none_answered : (left old : Option (List ℕ)) → Answers left left old old NoMemory
none_answered None old = tt
none_answered (Some text) old = none_ran text (Some text) old

-- out of memory before the command begins
not_begun : (command : Option Command) (left old : Option (List ℕ)) → Answered command left left old old NoMemory
not_begun None left old = (inr refl, Appends-nil old)
not_begun (Some (Fuse workers keep)) left old = none_answered left old
not_begun (Some (Demo seed frames workers)) left old = ((λ e. absurd (cc)), ([], none_ran (generated_scan seed frames) (Some []) old))

-- where the arguments can't be got, nothing is read and nothing is written
pub without_words : (args : Arguments) (status : Status) (left old : Option (List ℕ))
    → MatchResult args (λ a. status ≡ NoMemory) (λ e. status ≡ (if is_out_of_memory (error_kind e) then NoMemory else Usage)) → Answered (command_in args) left left old old status
without_words (Ok a) status left old is = rw is (not_begun (command_in (Ok a)) left old)
without_words (Err e) status left old is = by (is_out_of_memory (error_kind e)) is
  where
    by : (b : Bool) → status ≡ (if b then NoMemory else Usage) → Answered None left left old old status
    by true same = (inr same, Appends-nil old)
    by false same = (inl same, Appends-nil old)
