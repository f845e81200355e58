-- The words of a command.
use Rattle.std.specs.Prelude.{ℕ, ◌&&◌, nat_le, Bool, true, if◌then◌else◌, List, [], ◌∷◌, length, codes, Option, None, Some, option_map, option_and_then}
use Rattle.std.specs.Char.{is_ascii_digit}
use Rattle.std.specs.List.{list_all}
use Rattle.std.specs.Option.{option_map_or}
use Rattle.std.specs.Str.{bytes_eq}
use Rattle.std.specs.Str.Parse.{digits_value}
use Rattle.clap.specs.Simple.{on_top}
use Rattle.clap.specs.Words.{App, Kinds, Row, Rule, Text, fault_of, first_of, new_app, new_rule, subcommand_of, with_rule, with_subcommand}
use Rattle.clap.specs.declared.error.kind.ErrorKind.{ErrorKind}
use Rattle.clap.specs.declared.error.kind.ErrorKind.TheVariants as kinds
use Rattle.command_words.specs.declared.words.Command.{Command}
use Rattle.command_words.specs.declared.words.Command.TheVariants.{Fuse, Demo}
use Rattle.command_words.specs.declared.words.WordError.{WordError}
use Rattle.command_words.specs.declared.words.WordError.TheVariants as errors

-- ---- the command line, as `clap` sees it

-- the option --workers, with one value
abbrev pub workers_rule : Rule
workers_rule = record (new_rule (codes "workers")) { long = Some (codes "workers") }

-- a value that has to be given
abbrev pub required_rule : Text → Rule
required_rule name = record (new_rule name) { required = true }

-- fuse [--workers N]
abbrev pub fuse_app : App
fuse_app = with_rule (new_app (codes "fuse")) workers_rule

-- demo SEED FRAMES [--workers N]
abbrev pub demo_app : App
demo_app = with_rule (with_rule (with_rule (new_app (codes "demo")) (required_rule (codes "seed"))) (required_rule (codes "frames"))) workers_rule

-- one of the two; the words don't begin with the program's name
abbrev pub program_app : App
program_app = with_subcommand (with_subcommand (on_top (λ s. record s { no_binary_name = true; subcommand_required = true }) (new_app (codes "fusion"))) fuse_app.top) demo_app.top

-- ---- values

-- one to ten decimal digits
abbrev pub is_number : List ℕ → Bool
is_number digits = nat_le 1 (length digits) && (nat_le (length digits) 10 && list_all is_ascii_digit digits)

-- the number that a word writes, from least to most
abbrev pub number_in : (least most : ℕ) → List ℕ → Option ℕ
number_in least most word =
    if is_number word && (nat_le least (digits_value 10 word) && nat_le (digits_value 10 word) most) then Some (digits_value 10 word)
    else None

-- the number given for a value
abbrev pub number_given : Text → (least most : ℕ) → List Row → Option ℕ
number_given name least most rows = option_and_then (number_in least most) (first_of name rows)

-- the number of workers: 1 to 64, and 4 where none is given
abbrev pub workers_of : List Row → Option ℕ
workers_of rows = option_map_or (number_in 1 64) (first_of (codes "workers") rows) (Some 4)

-- ---- the command

abbrev pub fuse_of : List Row → Option Command
fuse_of rows = option_map (λ workers. Fuse workers None) (workers_of rows)

abbrev pub demo_of : List Row → Option Command
demo_of rows =
    option_and_then (λ seed. option_and_then (λ frames. option_map (λ workers. Demo seed frames workers) (workers_of rows)) (number_given (codes "frames") 1 1000 rows))
    (number_given (codes "seed") 0 4294967295 rows)

-- by the name of the subcommand, and its values
abbrev pub command_named : Text × List Row → Option Command
command_named (name, rows) =
    if bytes_eq name (codes "fuse") then fuse_of rows
    else if bytes_eq name (codes "demo") then demo_of rows
    else None

-- by the faults that `clap` finds in the words, and the subcommand that they name
abbrev pub command_without : Kinds → (named : Option (Text × List Row)) → Option Command
command_without [] named = option_and_then command_named named
command_without (fault ∷ more) named = None

-- the command that words are: `clap` finds no fault in them, and each number is one of those that its value may have
unfoldable pub command_of : (words : List Text) → Option Command
command_of words = command_without (fault_of program_app words) (subcommand_of program_app words)

-- what an error of `clap` is to the caller
abbrev pub error_of : ErrorKind → WordError
error_of kinds.OutOfMemory = errors.NoMemory
error_of _ = errors.Usage
