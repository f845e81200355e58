-- The steps of a reader of scans: the configuration's line, the lines before a record, and the record.
use Rattle.std.proofs.Common.{◌≡◌, ℕ, suc, ◌+◌, ◌-◌, List, [], ◌∷◌, ◌++◌, length, length-append, Option, None, Some, Result, Ok, Err, refl, sym, ap, subst, ◌∙◌, arith}
use Rattle.scan_io.specs.Coming.{Kept, to_come}
use Rattle.scan_io.specs.Reading.{saturated, Stream, KnownReads, Reads, Came, UnlessOutOfMemory, byte_at, stream, turned, unread}
use Rattle.scan_io.specs.Steps.{◌>>=◌}
use Rattle.scan_io.proofs.ReadingLemmas.{came_step, came_err, came_ok, came_bad, reads_memory, loses_more, loses_feed}
use Rattle.fixed_geom.specs.declared.pose.PoseRows.{PoseRows}
use Rattle.depth_frame.specs.DepthMaps.{DepthMap}
use Rattle.depth_frame.specs.Pgm.{pgm_of}
use Rattle.scan_lang.specs.declared.error.BadScan.{BadScan}
use Rattle.scan_lang.specs.declared.error.BadWhat.TheVariants as what
use Rattle.scan_lang.specs.declared.error.ScanError.{ScanError}
use Rattle.scan_lang.specs.declared.error.ScanError.TheVariants as errors
use Rattle.scan_lang.specs.declared.entry.Entry.{Entry}
use Rattle.scan_lang.specs.declared.entry.Entry.TheVariants as entries
use Rattle.scan_lang.specs.declared.head.Head.{Head}
use Rattle.scan_lang.specs.declared.head.Head.TheVariants as heads
use Rattle.scan_lang.specs.Config.{Config}
use Rattle.scan_lang.specs.Offsets.{offset_after, fault, short, bad_pgm}
use Rattle.scan_lang.specs.Lines.{config_line_limit, line_limit, first_line}
use Rattle.scan_lang.specs.Words.{head_of}
use Rattle.scan_lang.specs.Readers.{scan_cause, scan_errors}
use Rattle.scan_lang.specs.Scan.{Begun, Read, config_at_start, begin_of, entry_with, entry_by, entry_at}

-- ---- the configuration

abbrev pub config_after : (line rest : List ℕ) → Result (Begun × List ℕ) BadScan
config_after line rest = config_at_start line >>= λ c. Ok (record { config = c; offset = offset_after 0 (length line + 1) }, rest)

pub begin_split : (offset : ℕ) → offset ≡ 0 → (t : List ℕ) → begin_of t ≡ (first_line config_line_limit offset t >>= λ p. config_after p.0 p.1)
unfolding begin_of
begin_split offset is t = rw is refl

config_known : (line : List ℕ) (c : Config) (offset : ℕ) → config_at_start line ≡ Ok c → offset ≡ offset_after 0 (length line + 1) → (t : List ℕ) → config_after line t ≡ Ok (record { config = c; offset = offset }, t)
config_known line c offset is at t = rw (is, at) refl

config_bad : (line : List ℕ) (why : BadScan) → config_at_start line ≡ Err why → (t : List ℕ) → config_after line t ≡ Err why
config_bad line why is t = rw is refl

-- the configuration of a line that was read
pub begun_with : (line : List ℕ) (offset : ℕ) (r : Result Config ScanError) (old new : Stream) → Came begin_of (config_after line) old new → offset ≡ offset_after 0 (length line + 1) → UnlessOutOfMemory scan_cause (λ (c : Config). c) r (config_at_start line)
    → Reads scan_errors (λ (c : Config). record { config = c; offset = offset }) begin_of old new r
begun_with line offset (Ok c) old new came at is = came_ok (λ (k : Config). record { config = k; offset = offset }) c came (config_known line c offset is at)
begun_with line offset (Err (errors.Bad why)) old new came at is = came_bad scan_errors (λ (k : Config). record { config = k; offset = offset }) why (errors.Bad why) refl came (config_bad line why is)
begun_with line offset (Err errors.ReadFault) old new came at is = absurd is
begun_with line offset (Err errors.NoMemory) old new came at is = reads_memory scan_errors (λ (k : Config). record { config = k; offset = offset }) errors.NoMemory refl came

lost_known : {X Y Z : Type 0} (view : X → Y) (see : Z → Y) (parse : List ℕ → Result (Y × List ℕ) BadScan) (e : ScanError) (a b c : ℕ) (old new other left : Option (List ℕ)) → KnownReads scan_errors view parse a b old new left (Err e) → KnownReads scan_errors see parse a c old other left (Err e)
lost_known view see parse e a b c None new other left h = tt
lost_known view see parse e a b c (Some text) new other left h = h

none_read : (left : Option (List ℕ)) (faults : ℕ) → stream (record { bytes = []; given = 0 }) left faults ≡ unread left faults
none_read None faults = refl
none_read (Some bytes) faults = refl

-- what a feed keeps is lost with it
pub begin_lost : {X Y Z : Type 0} {view : X → Y} (see : Z → Y) {parse : List ℕ → Result (Y × List ℕ) BadScan} {e : ScanError} (feed next : Kept) (left more : Option (List ℕ)) (before now : ℕ) → feed ≡ record { bytes = []; given = 0 }
    → Reads scan_errors view parse (stream feed left before) (stream next more now) (Err e) → Reads scan_errors see parse (unread left before) (unread more now) (Err e)
begin_lost {view = view} see {parse = parse} {e = e} feed next left more before now fresh h =
    let k = subst (λ (s : Stream). Reads scan_errors view parse s (stream next more now) (Err e)) (ap (λ (f : Kept). stream f left before) fresh ∙ none_read left before) h in
    record {
      known = lost_known view see parse e 0 next.given 0 left (to_come next more) more more k.known;
      front = loses_more k.front (loses_feed next more);
      faults = k.faults;
    }

-- ---- lines before a record

-- an entry as the reader gives it
abbrev pub entry_read : (left offset : ℕ) → Entry → Read
entry_read left offset e = record { entry = e; left = left; offset = offset }

-- the first entry, where its line or one without words was read
abbrev pub entry_after : (n offset : ℕ) → (line rest : List ℕ) → Result (Read × List ℕ) BadScan
entry_after n offset line rest = head_of offset line >>= λ h. entry_by n (offset_after offset (length line + 1)) rest (entry_at n (offset_after offset (length line + 1)) rest) h

entry_split : (left n offset : ℕ) → left ≡ suc n → (t : List ℕ) → entry_at left offset t ≡ (first_line line_limit offset t >>= λ p. entry_after n offset p.0 p.1)
unfolding entry_at
entry_split left n offset is t = rw is refl

-- a line was read
pub line_came : {X : Type 0} {view : X → List ℕ} {whole : List ℕ → Result (Read × List ℕ) BadScan} (left n offset : ℕ) {x : X} {old mid new : Stream} → left ≡ suc n → Came whole (entry_at left offset) old mid → Reads scan_errors view (first_line line_limit offset) mid new (Ok x) → Came whole (entry_after n offset (view x)) old new
line_came left n offset is came line = came_step (entry_after n offset) came line (entry_split left n offset is)

-- no line was read
pub line_lost : {X Z : Type 0} {view : X → List ℕ} (see : Z → Read) {whole : List ℕ → Result (Read × List ℕ) BadScan} (left n offset : ℕ) {e : ScanError} {old mid new : Stream} → left ≡ suc n → Came whole (entry_at left offset) old mid → Reads {X = X} scan_errors view (first_line line_limit offset) mid new (Err e) → Reads scan_errors see whole old new (Err e)
line_lost see left n offset is came line = came_err see (entry_after n offset) came line (entry_split left n offset is)

pub entry_blank : (n offset next : ℕ) (line : List ℕ) → head_of offset line ≡ Ok None → next ≡ offset_after offset (length line + 1) → (t : List ℕ) → entry_after n offset line t ≡ entry_at n next t
entry_blank n offset next line is at t = rw (is, at) refl

pub entry_head : (n offset next : ℕ) (line : List ℕ) (head : Head) → head_of offset line ≡ Ok (Some head) → next ≡ offset_after offset (length line + 1) → (t : List ℕ) → entry_after n offset line t ≡ entry_with n next head t
entry_head n offset next line head is at t = rw (is, at) refl

pub entry_bad : (n offset : ℕ) (line : List ℕ) (why : BadScan) → head_of offset line ≡ Err why → (t : List ℕ) → entry_after n offset line t ≡ Err why
entry_bad n offset line why is t = rw is refl

-- a byte where no line may follow
abbrev pub too_many : (offset b : ℕ) → List ℕ → Result (Read × List ℕ) BadScan
too_many offset b t = Err (fault what.Lines offset)

pub end_split : (left offset : ℕ) → left ≡ 0 → (t : List ℕ) → entry_at left offset t ≡ (byte_at short offset t >>= λ p. too_many offset p.0 p.1)
unfolding entry_at
end_split left offset is [] = rw is refl
end_split left offset is (b ∷ t) = rw is refl

-- ---- a frame

abbrev pub depths_at : (offset : ℕ) → List ℕ → Result (DepthMap × List ℕ) BadScan
depths_at offset t = turned bad_pgm (pgm_of offset t)

frame_again : (left offset now : ℕ) (rows : PoseRows) (f : DepthMap) (front other : List ℕ) → now ≡ offset_after offset (length front) → depths_at offset (front ++ other) ≡ Ok (f, other)
    → entry_with left offset (heads.Frame rows) (front ++ other) ≡ Ok (entry_read left now (entries.Frame rows f), other)
frame_again left offset now rows f front other at is =
    let n : length (front ++ other) - length other ≡ length front = simp length-append (omega arith) in
    rw (is, n, at) refl

frame_known : (left offset now : ℕ) (rows : PoseRows) (f : DepthMap) (old new l : Option (List ℕ)) → saturated now ≡ now → KnownReads scan_errors (λ (x : DepthMap). x) (depths_at offset) offset now old new l (Ok f)
    → KnownReads scan_errors (entry_read left now) (entry_with left offset (heads.Frame rows)) offset now old new l (Ok (entries.Frame rows f))
frame_known left offset now rows f None new l small h = tt
frame_known left offset now rows f (Some text) None l small h = absurd h
frame_known left offset now rows f (Some text) (Some rest) l small h = record {
  front = h.front;
  is = h.is;
  count = h.count;
  again = λ other. frame_again left offset now rows f h.front other (sym small ∙ h.count) (h.again other);
}

-- the depth map of a frame was read
pub frame_read : (left : ℕ) (rows : PoseRows) (f : DepthMap) (old new : Stream) → saturated new.given ≡ new.given → Reads scan_errors (λ (x : DepthMap). x) (depths_at old.given) old new (Ok f)
    → Reads scan_errors (entry_read left new.given) (entry_with left old.given (heads.Frame rows)) old new (Ok (entries.Frame rows f))
frame_read left rows f old new small h = record { known = frame_known left old.given new.given rows f old.come new.come new.left small h.known; front = h.front; faults = h.faults }
