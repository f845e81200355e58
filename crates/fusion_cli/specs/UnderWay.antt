-- A run that is under way.
use Rattle.std.specs.Prelude.{◌≡◌, ℕ, List, ◌++◌}
use Rattle.std.specs.List.{concat}
use Rattle.std.specs.Io.KnownBytes.{Appends}
use Rattle.scan_io.specs.Coming.{Grows}
use Rattle.scan_io.specs.Reading.{Came, Stream}
use Rattle.scan_lang.specs.Config.{Config}
use Rattle.scan_lang.specs.Scan.{records_of}
use Rattle.fusion_core.specs.Fold.{State}
use Rattle.session.specs.Output.{Output, output_from, output_of}
use Rattle.fusion_cli.specs.Run.{Told}

-- these replies, and then an output
abbrev pub onward : List (List ℕ) → Output → Output
onward done o = record { replies = done ++ o.replies; ending = o.ending }

-- the output of a text whose front was acted on, with these replies and this state, where left more lines may follow at an offset
abbrev pub output_after : Config → List (List ℕ) → State → (left offset : ℕ) → List ℕ → Output
output_after c done s n offset other = onward done (output_from c s (records_of n offset other))

-- From a stream and a sink before, a run has come to the stream and the sink now: it wrote the replies to the records that
-- it read, and whatever text follows, the output of the whole is these replies and then what the rest gives from the state.
pub record IsUnderWay (c : Config) (before now : Stream) (left offset : ℕ) (s : State) (sink grown : Told) : Type 0 where
  pub done : List (List ℕ)
  pub came : Came output_of (output_after c done s left offset) before now
  pub written : Appends sink.bytes grown.bytes (concat done)
  pub grows : Grows sink.bytes grown.bytes
  pub kept : grown.faults ≡ sink.faults
