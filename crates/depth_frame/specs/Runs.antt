-- Runs of samples: many samples of a raster that stand together.
use Rattle.std.specs.Prelude.{◌≡◌, ℕ, ◌+◌, ◌*◌, List, ◌++◌, Result, Ok, Err, IsErr}
use Rattle.depth_frame.specs.declared.error.BadPgm.{BadPgm}
use Rattle.depth_frame.specs.Pgm.{one_sample, raster_at, sample_len}

-- samples in front of those that are read
abbrev pub with_front : List ℕ → Result (List ℕ × List ℕ) BadPgm → Result (List ℕ × List ℕ) BadPgm
with_front vs (Err why) = Err why
with_front vs (Ok (ws, rest)) = Ok (vs ++ ws, rest)

-- the samples so far, and k more from offset n on
abbrev pub raster_further : List ℕ → ℕ → ℕ → ℕ → List ℕ → Result (List ℕ × List ℕ) BadPgm
raster_further vs maxval k n t = with_front vs (raster_at maxval k n t)

-- the bytes are count samples, none above the maxval: at whatever offset they stand, a raster with the samples `before` so far goes on after them with the samples `after`
pub record IsRun (maxval count : ℕ) (bytes before after : List ℕ) : Type 0 where
  pub again : (more n : ℕ) (rest : List ℕ) → raster_further before maxval (count + more) n (bytes ++ rest) ≡ raster_further after maxval more (n + count * sample_len maxval) rest

-- no whole sample of at most the maxval stands at the front of the bytes
abbrev pub HasNoSample : ℕ → List ℕ → Type 0
HasNoSample maxval bytes = (n : ℕ) → IsErr (one_sample maxval n bytes)
