-- The records of a text, one after the other.
use Rattle.std.proofs.Common.{◌≡◌, ℕ, zero, suc, ◌+◌, ◌-◌, List, length, Option, None, Some, Result, Ok, Err, refl}
use Rattle.scan_io.specs.Reading.{turned}
use Rattle.scan_io.specs.Steps.{◌>>=◌}
use Rattle.depth_frame.specs.DepthMaps.{DepthMap}
use Rattle.depth_frame.specs.Pgm.{pgm_of}
use Rattle.fixed_geom.specs.declared.pose.PoseRows.{PoseRows}
use Rattle.scan_lang.specs.declared.error.BadScan.{BadScan}
use Rattle.scan_lang.specs.declared.entry.Entry.TheVariants.{Frame}
use Rattle.scan_lang.specs.declared.head.Head.{Head}
use Rattle.scan_lang.specs.declared.head.Head.TheVariants as heads
use Rattle.scan_lang.specs.Offsets.{offset_after, bad_pgm}
use Rattle.scan_lang.specs.Lines.{line_limit, first_line}
use Rattle.scan_lang.specs.Words.{head_of}
use Rattle.scan_lang.specs.Scan.{Read, Records, entry_by, entry_at, entry_with, records_with, records_from, records_after, records_of}

-- the records from an entry on
abbrev pub further : Read → List ℕ → Records
further r rest = records_with r.entry (records_of r.left r.offset rest)

-- an entry that a line begins does not change how many lines may follow
step_frame : (n offset : ℕ) (rows : PoseRows) (rest : List ℕ) (p : Result (DepthMap × List ℕ) BadScan)
    → records_from {X = Read} (λ r more. records_with r.entry (records_of n r.offset more)) (p >>= λ q. Ok (record { entry = Frame rows q.0; left = n; offset = offset_after offset (length rest - length q.1) }, q.1))
    ≡ records_from further (p >>= λ q. Ok (record { entry = Frame rows q.0; left = n; offset = offset_after offset (length rest - length q.1) }, q.1))
step_frame n offset rows rest (Ok q) = refl
step_frame n offset rows rest (Err why) = refl

step_head : (n offset : ℕ) (head : Head) (rest : List ℕ) → records_from {X = Read} (λ r more. records_with r.entry (records_of n r.offset more)) (entry_with n offset head rest) ≡ records_from further (entry_with n offset head rest)
step_head n offset (heads.Frame rows) rest = step_frame n offset rows rest (turned bad_pgm (pgm_of offset rest))
step_head n offset (heads.Whole entry) rest = refl

abbrev EachStep : ℕ → Type 0
EachStep n = (offset : ℕ) (text : List ℕ) → records_of n offset text ≡ records_from further (entry_at n offset text)

by_head : (n offset : ℕ) (rest : List ℕ) → EachStep n → (h : Result (Option Head) BadScan)
    → records_after n offset (records_of n) h rest ≡ records_from further (h >>= λ x. entry_by n offset rest (entry_at n offset rest) x)
by_head n offset rest step (Err why) = refl
by_head n offset rest step (Ok None) = step offset rest
by_head n offset rest step (Ok (Some head)) = step_head n offset head rest

by_line : (n offset : ℕ) → EachStep n → (l : Result (List ℕ × List ℕ) BadScan)
    → records_from {X = List ℕ} (λ line rest. records_after n (offset_after offset (length line + 1)) (records_of n) (head_of offset line) rest) l
    ≡ records_from further (l >>= λ p. head_of offset p.0 >>= λ h. entry_by n (offset_after offset (length p.0 + 1)) p.1 (entry_at n (offset_after offset (length p.0 + 1)) p.1) h)
by_line n offset step (Err why) = refl
by_line n offset step (Ok l) = by_head n (offset_after offset (length l.0 + 1)) l.1 step (head_of offset l.0)

-- the records of a text are its first entry and those after it
pub records_step : (n offset : ℕ) (text : List ℕ) → records_of n offset text ≡ records_from further (entry_at n offset text)
unfolding records_of entry_at
records_step zero offset text = refl
records_step (suc n) offset text = by_line n offset (records_step n) (first_line line_limit offset text)
