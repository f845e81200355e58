-- The command that words are.
use Rattle.std.proofs.Common.{codes, ◌≡◌, ℕ, ◌^◌, ◌≤◌, ◌<◌, ◌≢◌, List, [], ◌∷◌, length, Bool, true, false, leb, ◌&&◌, None, Option, refl, sym, ap, ◌∙◌, arith, inl, inr, get_or, subst}
use Rattle.std.specs.Prelude.{Some, if◌then◌else◌, is_some, option_and_then, option_map}
use Rattle.std.specs.Option.{option_map_or}
use Rattle.std.specs.Str.{bytes_eq}
use Rattle.std.specs.List.{list_all}
use Rattle.std.specs.Char.{is_ascii_digit, digit_value}
use Rattle.std.specs.Str.Parse.{AllDigits, IsNumeral, digits_value, without_leading_plus}
use Rattle.std.proofs.lemmas.Bool.{and_parts, lt-leb, leb-true, true≢false}
use Rattle.std.proofs.lemmas.Bool.Decides.{nat_tests}
use Rattle.std.proofs.lemmas.Str.Parse.{without_leading_plus_none}
use Rattle.clap.proofs.OnLiterals.{clap_on_literals}
use Rattle.clap.specs.Words.{App, HasKind, HasMatchesOf, Kinds, Row, Text, fault_of, first_of, is_simple, is_simple_and_free, kind_of, subcommand_of, subcommand_rows_of}
use Rattle.clap.specs.declared.error.Error.{Error}
use Rattle.clap.specs.declared.parser.matches.ArgMatches.{ArgMatches}
use Rattle.command_words.specs.Words.{command_named, command_of, command_without, demo_of, error_of, fuse_of, is_number, number_given, number_in, program_app, workers_of}
use Rattle.command_words.specs.declared.words.Command.TheVariants.{Fuse, Demo}
use Rattle.command_words.specs.declared.words.Command.{Command}
use Rattle.command_words.specs.declared.words.WordError.{WordError}
use Rattle.command_words.specs.declared.words.WordError.TheVariants as errors

-- ---- the command line

simple : is_simple program_app ≡ true
unfolding clap_on_literals
simple = refl

simple_and_free : is_simple_and_free program_app ≡ true
unfolding clap_on_literals
simple_and_free = refl

without_fault : (faults : Kinds) (named : Option (Text × List Row)) → faults ≡ [] → command_without faults named ≡ option_and_then command_named named
without_fault faults named none = rw none refl

-- words without a fault are the command that their matches are
pub command_found : (app : App) (words : List Text) (m : ArgMatches) → app ≡ program_app → (is_simple_and_free app ≡ true → fault_of app words ≡ []) → HasMatchesOf app words m → command_of words ≡ option_and_then command_named (subcommand_rows_of m)
unfolding command_of
command_found app words m is none has =
    let faults : fault_of program_app words ≡ [] = rw is at (none (ap is_simple_and_free is ∙ simple_and_free)) in
    let named : subcommand_rows_of m ≡ subcommand_of program_app words = rw is at (has (ap is_simple is ∙ simple)).1 in
    without_fault (fault_of program_app words) (subcommand_of program_app words) faults ∙ ap (option_and_then command_named) (sym named)

abbrev is_no_memory : WordError → Bool
is_no_memory errors.NoMemory = true
is_no_memory errors.Usage = false

refused_for : (faults : Kinds) (named : Option (Text × List Row)) (e : Error) → HasKind faults e → error_of (kind_of e) ≡ errors.Usage → command_without faults named ≡ None
refused_for [] named e (inl memory) usage = absurd (true≢false (ap is_no_memory (ap error_of (sym memory) ∙ usage)))
refused_for [] named e (inr other) usage = absurd other
refused_for (fault ∷ more) named e has usage = refl

-- words that are refused for another cause than memory are no command
pub command_refused : (app : App) (words : List Text) (e : Error) → app ≡ program_app → (is_simple_and_free app ≡ true → HasKind (fault_of app words) e) → error_of (kind_of e) ≡ errors.Usage → command_of words ≡ None
unfolding command_of
command_refused app words e is has usage =
    let kinds : HasKind (fault_of program_app words) e = rw is at (has (ap is_simple_and_free is ∙ simple_and_free)) in
    refused_for (fault_of program_app words) (subcommand_of program_app words) e kinds usage

-- ---- numbers

digit_low : (c : ℕ) → is_ascii_digit c ≡ true → digit_value c < 10
digit_low c is = grind (arith, nat_tests)

all_digits : (word : List ℕ) → list_all is_ascii_digit word ≡ true → AllDigits 10 word
all_digits [] all = tt
all_digits (c ∷ more) all = let p = and_parts (is_ascii_digit c) (list_all is_ascii_digit more) all in (digit_low c p.0, all_digits more p.1)

no_plus : (word : List ℕ) → list_all is_ascii_digit word ≡ true → get_or word 0 0 ≢ 43
no_plus [] all is = absurd (omega arith)
no_plus (c ∷ more) all is = let p = and_parts (is_ascii_digit c) (list_all is_ascii_digit more) all in absurd (grind (arith, nat_tests))

-- a number that does not fit 32 bits passes every bound that does
pub number_too_large : (least most : ℕ) (word : List ℕ) → most ≤ 4294967295 → is_number word ≡ true
    → (IsNumeral 10 (without_leading_plus word) × (digits_value 10 (without_leading_plus word) < 2 ^ 32) → ⊥)
    → number_in least most word ≡ None
number_too_large least most word fits is refuse =
    let p = and_parts (leb 1 (length word)) (leb (length word) 10 && list_all is_ascii_digit word) is in
    let all = (and_parts (leb (length word) 10) (list_all is_ascii_digit word) p.1).1 in
    let same : without_leading_plus word ≡ word = without_leading_plus_none word (no_plus word all) in
    let long : 0 < length word = leb-true _ _ p.0 in
    let large : digits_value 10 word < 2 ^ 32 → ⊥ = λ low. refuse (subst (λ (w : List ℕ). IsNumeral 10 w × (digits_value 10 w < 2 ^ 32)) (sym same) ((long, all_digits word all), low)) in
    let above : most < digits_value 10 word = omega (arith, large) in
    rw (lt-leb (digits_value 10 word) most above) (grind (arith, nat_tests))

-- ---- the frames of a demo

abbrev frames_in : Option Command → ℕ
frames_in None = 0
frames_in (Some (Fuse workers keep)) = 0
frames_in (Some (Demo seed frames workers)) = frames

abbrev number_of : Option ℕ → ℕ
number_of None = 0
number_of (Some n) = n

abbrev is_demo : Option Command → Bool
is_demo None = false
is_demo (Some (Fuse workers keep)) = false
is_demo (Some (Demo seed frames workers)) = true

number_if : (b : Bool) (v n : ℕ) → (if b then Some v else None) ≡ Some n → (b ≡ true) × (v ≡ n)
number_if true v n is = (refl, ap (λ (o : Option ℕ). number_of o) is)
number_if false v n is = absurd (true≢false (sym (ap is_some is)))

number_bound : (least most n : ℕ) (word : List ℕ) → number_in least most word ≡ Some n → (least ≤ n) × (n ≤ most)
number_bound least most n word is =
    let v = digits_value 10 word in
    let p = number_if (is_number word && (leb least v && leb v most)) v n is in
    let q = and_parts (leb least v) (leb v most) (and_parts (is_number word) (leb least v && leb v most) p.0).1 in
    (subst (λ (k : ℕ). least ≤ k) p.1 (leb-true _ _ q.0), subst (λ (k : ℕ). k ≤ most) p.1 (leb-true _ _ q.1))

given_bound : (least most n : ℕ) (word : Option Text) → option_and_then (number_in least most) word ≡ Some n → (least ≤ n) × (n ≤ most)
given_bound least most n None is = absurd (true≢false (sym (ap is_some is)))
given_bound least most n (Some word) is = number_bound least most n word is

frames_given : (seed frames workers : Option ℕ) (s f w : ℕ)
    → option_and_then (λ a. option_and_then (λ b. option_map (λ n. Demo a b n) workers) frames) seed ≡ Some (Demo s f w) → frames ≡ Some f
frames_given None frames workers s f w is = absurd (true≢false (sym (ap is_some is)))
frames_given (Some a) None workers s f w is = absurd (true≢false (sym (ap is_some is)))
frames_given (Some a) (Some b) None s f w is = absurd (true≢false (sym (ap is_some is)))
frames_given (Some a) (Some b) (Some n) s f w is = ap (λ c. Some (frames_in c)) is

no_demo : (workers : Option ℕ) (s f w : ℕ) → option_map (λ n. Fuse n None) workers ≢ Some (Demo s f w)
no_demo None s f w is = true≢false (sym (ap is_some is))
no_demo (Some n) s f w is = true≢false (sym (ap is_demo is))

chosen_bound : (fuse demo : Bool) (rows : List Row) (s f w : ℕ) → (if fuse then fuse_of rows else if demo then demo_of rows else None) ≡ Some (Demo s f w) → (1 ≤ f) × (f ≤ 1000)
chosen_bound true demo rows s f w is = absurd (no_demo (workers_of rows) s f w is)
chosen_bound false true rows s f w is =
    given_bound 1 1000 f (first_of (codes "frames") rows) (frames_given (number_given (codes "seed") 0 4294967295 rows) (number_given (codes "frames") 1 1000 rows) (workers_of rows) s f w is)
chosen_bound false false rows s f w is = absurd (true≢false (sym (ap is_some is)))

without_bound : (faults : Kinds) (named : Option (Text × List Row)) (s f w : ℕ) → command_without faults named ≡ Some (Demo s f w) → (1 ≤ f) × (f ≤ 1000)
without_bound [] None s f w is = absurd (true≢false (sym (ap is_some is)))
without_bound [] (Some (name, rows)) s f w is = chosen_bound (bytes_eq name (codes "fuse")) (bytes_eq name (codes "demo")) rows s f w is
without_bound (fault ∷ more) named s f w is = absurd (true≢false (sym (ap is_some is)))

-- a demo has 1 to 1000 frames
pub frames_bound : (words : List Text) (s f w : ℕ) → command_of words ≡ Some (Demo s f w) → (1 ≤ f) × (f ≤ 1000)
unfolding command_of
frames_bound words s f w is = without_bound (fault_of program_app words) (subcommand_of program_app words) s f w is

-- ---- the workers of a command

abbrev pub workers_in : Command → ℕ
workers_in (Fuse workers keep) = workers
workers_in (Demo seed frames workers) = workers

abbrev workers_known : Option Command → ℕ
workers_known None = 0
workers_known (Some command) = workers_in command

given_workers : (n : ℕ) (word : Option Text) → option_map_or (number_in 1 64) word (Some 4) ≡ Some n → (1 ≤ n) × (n ≤ 64)
given_workers n None is = let four : 4 ≡ n = ap number_of is in (omega (arith, four), omega (arith, four))
given_workers n (Some word) is = number_bound 1 64 n word is

fuse_workers : (workers : Option ℕ) (command : Command) → option_map (λ n. Fuse n None) workers ≡ Some command → workers ≡ Some (workers_in command)
fuse_workers None command is = absurd (true≢false (sym (ap is_some is)))
fuse_workers (Some n) command is = ap (λ o. Some (workers_known o)) is

demo_workers : (seed frames workers : Option ℕ) (command : Command)
    → option_and_then (λ a. option_and_then (λ b. option_map (λ n. Demo a b n) workers) frames) seed ≡ Some command → workers ≡ Some (workers_in command)
demo_workers None frames workers command is = absurd (true≢false (sym (ap is_some is)))
demo_workers (Some a) None workers command is = absurd (true≢false (sym (ap is_some is)))
demo_workers (Some a) (Some b) None command is = absurd (true≢false (sym (ap is_some is)))
demo_workers (Some a) (Some b) (Some n) command is = ap (λ o. Some (workers_known o)) is

chosen_workers : (fuse demo : Bool) (rows : List Row) (command : Command) → (if fuse then fuse_of rows else if demo then demo_of rows else None) ≡ Some command
    → (1 ≤ workers_in command) × (workers_in command ≤ 64)
chosen_workers true demo rows command is = given_workers (workers_in command) (first_of (codes "workers") rows) (fuse_workers (workers_of rows) command is)
chosen_workers false true rows command is =
    given_workers (workers_in command) (first_of (codes "workers") rows)
    (demo_workers (number_given (codes "seed") 0 4294967295 rows) (number_given (codes "frames") 1 1000 rows) (workers_of rows) command is)
chosen_workers false false rows command is = absurd (true≢false (sym (ap is_some is)))

without_workers : (faults : Kinds) (named : Option (Text × List Row)) (command : Command) → command_without faults named ≡ Some command
    → (1 ≤ workers_in command) × (workers_in command ≤ 64)
without_workers [] None command is = absurd (true≢false (sym (ap is_some is)))
without_workers [] (Some (name, rows)) command is = chosen_workers (bytes_eq name (codes "fuse")) (bytes_eq name (codes "demo")) rows command is
without_workers (fault ∷ more) named command is = absurd (true≢false (sym (ap is_some is)))

-- a command has 1 to 64 workers
pub workers_bound : (words : List Text) (command : Command) → command_of words ≡ Some command → (1 ≤ workers_in command) × (workers_in command ≤ 64)
unfolding command_of
workers_bound words command is = without_workers (fault_of program_app words) (subcommand_of program_app words) command is
