-- What the reading of a text as a scan says of every longer text.
use Rattle.std.proofs.Common.{◌≡◌, ◌≢◌, ℕ, zero, suc, ◌+◌, ◌-◌, ◌<◌, ◌≤◌, List, [], ◌∷◌, ◌++◌, length, length-append, Bool, true, false, cond, eqb, leb, Option, None, Some, Result, Ok, Err, refl, sym, ap, ◌∙◌, arith}
use Rattle.std.specs.Prelude.{ℤ, ⊤, codes, bytes_eq, ok_or}
use Rattle.std.specs.List.{slice_split, onto_first}
use Rattle.std.proofs.lemmas.Bool.Decides.{nat_tests}
use Rattle.std.proofs.lemmas.List.{append-nil}
use Rattle.fixed_geom.specs.Decimal.{value_of}
use Rattle.fixed_geom.specs.declared.pose.PoseRows.{PoseRows}
use Rattle.depth_frame.specs.declared.error.PgmKind.{PgmKind}
use Rattle.depth_frame.specs.declared.error.PgmKind.TheVariants as pgm
use Rattle.depth_frame.specs.Pgm.{pgm_of}
use Rattle.depth_frame.proofs.FrontLemmas.{pgm_front}
use Rattle.scan_io.specs.Reading.{saturated, turned}
use Rattle.scan_io.specs.Steps.{◌>>=◌}
use Rattle.scan_io.proofs.Fronts.{Front, whole, bad, cut, Given, given_ok, given_err, given_if, front_ok, front_cons, front_same, front_then, front_turned}
use Rattle.scan_lang.specs.declared.error.BadScan.{BadScan}
use Rattle.scan_lang.specs.declared.error.BadWhat.TheVariants as what
use Rattle.scan_lang.specs.declared.entry.Entry.{Entry}
use Rattle.scan_lang.specs.declared.entry.Entry.TheVariants.{Frame, Place}
use Rattle.scan_lang.specs.declared.head.Head.{Head}
use Rattle.scan_lang.specs.declared.head.Head.TheVariants as heads
use Rattle.scan_lang.specs.Config.{Config, config_of}
use Rattle.scan_lang.specs.Entries.{is_end}
use Rattle.scan_lang.specs.Offsets.{offset_after, fault, short, pgm_what, bad_pgm}
use Rattle.scan_lang.specs.Coordinates.{coordinate_of}
use Rattle.scan_lang.specs.Lines.{config_line_limit, line_limit, long, first_line}
use Rattle.scan_lang.specs.Words.{is_blank, Word, words_in, words_of, number_at, numbers_from, frame_head, coordinate_at, place_head, one_word, alone, head_with, head_in, head_of, rows_in}
use Rattle.scan_lang.specs.Scan.{Begun, Read, Records, Ending, complete, refused, config_at_start, begin_of, entry_with, no_line, nothing_but, with_entry, records_with, records_from, records_after, records_of, lines_after_config, scan_from, scan_of}
use Rattle.scan_lang.specs.Laws.{records_in, ShortIsAtEnd, OthersAreInside, OthersStay, CompleteStays, EntriesStay}
use Rattle.scan_lang.proofs.LineLemmas.{IsPlain, plain_none, plain_more, line_further, line_next, line_split, line_end, line_long}
use Rattle.scan_lang.proofs.ReaderLemmas.{config_after}

-- a refusal for another cause than an early end, at one of the first `end` bytes
abbrev pub IsInside : (end : ℕ) → BadScan → Type 0
IsInside end why = (why.what ≢ what.Short) × (why.at < end)

-- a refusal, where there is one, is such
abbrev RefusedInside : {X : Type 0} → (end : ℕ) → Result X BadScan → Type 0
RefusedInside {X} end r = Given (λ (x : X). ⊤) (IsInside end) r

inside_then : {X Y : Type 0} (end : ℕ) (r : Result X BadScan) (g : X → Result Y BadScan) → RefusedInside end r → ((x : X) → RefusedInside end (g x)) → RefusedInside end (r >>= g)
inside_then end (Ok x) g p q = q x
inside_then end (Err why) g p q = given_err why p.is

-- the reading of a part of a scan, in a text that ends at byte number `end`
abbrev ScanFront : {Y : Type 0} → (end : ℕ) → (Y → List ℕ → Type 0) → (List ℕ → Result (Y × List ℕ) BadScan) → List ℕ → Type 0
ScanFront end P parse text = Front (IsInside end) (short (saturated end)) P parse text

-- ---- a line

-- a line that begins at a byte number, and the rest of the text
record LineFront (start end : ℕ) (line rest : List ℕ) : Type 0 where
  count : (start + (length line + 1)) + length rest ≡ end

line_fed : (limit offset start end b : ℕ) (front text : List ℕ) → IsPlain front → length front ≤ limit → b ≡ 10 → (start + length front) + suc (length text) ≡ end → ScanFront end (LineFront start end) (line_further limit offset front) (b ∷ text)
line_fed limit offset start end b front text plain fits is count =
    whole front text (record { count = omega arith }) (λ more. line_split limit offset (offset_after offset (length front)) front plain fits refl (b ∷ (text ++ more)) ∙ rw is (line_end limit offset front plain fits (text ++ more)))

line_over : (limit offset start end b : ℕ) (front text : List ℕ) → IsPlain front → length front ≤ limit → (b ≡ 10 → ⊥) → limit < length (front ++ b ∷ []) → offset ≤ start → (start + length front) + suc (length text) ≡ end → ScanFront end (LineFront start end) (line_further limit offset front) (b ∷ text)
line_over limit offset start end b front text plain fits other over low count =
    bad (long limit offset) ((λ is. absurd cc), omega (arith, simp length-append at over))
    (λ more. line_split limit offset (offset_after offset (length front)) front plain fits refl (b ∷ (text ++ more)) ∙ line_long limit offset (front ++ b ∷ []) (plain_more front b plain other) over (text ++ more))

line_byte : (limit offset start end b : ℕ) (front text : List ℕ) (feed fits_more : Bool) → eqb b 10 ≡ feed → leb (length (front ++ b ∷ [])) limit ≡ fits_more → IsPlain front → length front ≤ limit → offset ≡ saturated start → (start + length front) + suc (length text) ≡ end
    → (IsPlain (front ++ b ∷ []) → length (front ++ b ∷ []) ≤ limit → (start + length (front ++ b ∷ [])) + length text ≡ end → ScanFront end (LineFront start end) (line_next limit offset front b) text)
    → ScanFront end (LineFront start end) (line_further limit offset front) (b ∷ text)
line_byte limit offset start end b front text true fits_more test size plain fits at count on = line_fed limit offset start end b front text plain fits (grind (arith, nat_tests)) count
line_byte limit offset start end b front text false false test size plain fits at count on = line_over limit offset start end b front text plain fits (grind (arith, nat_tests)) (grind (arith, nat_tests)) (omega arith) count
line_byte limit offset start end b front text false true test size plain fits at count on =
    front_cons b text (front_same text (λ t. sym (line_split limit offset (offset_after offset (length front)) front plain fits refl (b ∷ t)))
    (on (plain_more front b plain (grind (arith, nat_tests))) (grind (arith, nat_tests)) (simp length-append (omega arith))))

line_on : (limit offset start end : ℕ) (front text : List ℕ) → IsPlain front → length front ≤ limit → offset ≡ saturated start → (start + length front) + length text ≡ end → ScanFront end (LineFront start end) (line_further limit offset front) text
line_on limit offset start end front [] plain fits at count =
    let last : saturated end ≡ offset_after offset (length front) = omega arith in
    cut (line_split limit offset (saturated end) front plain fits last [])
line_on limit offset start end front (b ∷ text) plain fits at count =
    line_byte limit offset start end b front text (eqb b 10) (leb (length (front ++ b ∷ [])) limit) refl refl plain fits at count (λ plain' fits' count'. line_on limit offset start end (front ++ b ∷ []) text plain' fits' at count')

line_front : (limit offset start end : ℕ) (text : List ℕ) → offset ≡ saturated start → start + length text ≡ end → ScanFront end (LineFront start end) (first_line limit offset) text
line_front limit offset start end text at count = line_on limit offset start end [] text plain_none (omega arith) at (omega arith)

-- ---- its words

-- the number of bytes of pieces, with one after each
span_of : List (List ℕ) → ℕ
span_of [] = 0
span_of (piece ∷ pieces) = (length piece + 1) + span_of pieces

span_onto : (b : ℕ) (pieces : List (List ℕ)) → 0 < span_of pieces → span_of (onto_first b pieces) ≡ suc (span_of pieces)
unfolding span_of
span_onto b [] some = absurd (omega arith)
span_onto b (piece ∷ pieces) some = omega arith

span_next : (b : ℕ) (line : List ℕ) (test : Bool) → span_of (slice_split is_blank line) ≡ suc (length line) → span_of (cond test ([] ∷ slice_split is_blank line) (onto_first b (slice_split is_blank line))) ≡ suc (suc (length line))
unfolding span_of
span_next b line true is = omega arith
span_next b line false is = span_onto b (slice_split is_blank line) (omega arith) ∙ ap suc is

span_split : (line : List ℕ) → span_of (slice_split is_blank line) ≡ suc (length line)
unfolding span_of
span_split [] = refl
span_split (b ∷ line) = span_next b line (is_blank b) (span_split line)

-- each word begins before an index
AllBefore : (end : ℕ) → List Word → Type 0
AllBefore end [] = Unit {0}
AllBefore end (w ∷ ws) = (w.at < end) × AllBefore end ws

before_if : (end at : ℕ) (piece : List ℕ) (test : Bool) (further more : List Word) → at < end → AllBefore end further → AllBefore end more → AllBefore end (cond test further (record { at = at; bytes = piece } ∷ more))
unfolding AllBefore
before_if end at piece true further more low p q = p
before_if end at piece false further more low p q = (low, q)

words_before : (end at : ℕ) (pieces : List (List ℕ)) → at + span_of pieces ≤ end → AllBefore end (words_in at pieces)
unfolding AllBefore span_of
words_before end at [] fits = tt
words_before end at (piece ∷ pieces) fits =
    before_if end at piece (eqb (length piece) 0) (words_in (at + 1) pieces) (words_in (at + length piece + 1) pieces) (omega arith) (words_before end (at + 1) pieces (omega arith)) (words_before end (at + length piece + 1) pieces (omega arith))

-- ---- what a line begins

number_inside : (offset end index : ℕ) (w : Word) → offset + w.at < end → RefusedInside end (number_at offset index w)
number_inside offset end index w low = turned_inside (value_of _ w.bytes)
  where
    turned_inside : {X V : Type 0} (r : Result X V) → RefusedInside end (turned (λ why. fault what.Number (offset_after offset w.at)) r)
    turned_inside (Ok x) = given_ok x tt
    turned_inside (Err why) = given_err (fault what.Number (offset_after offset w.at)) ((λ is. absurd cc), omega arith)

numbers_inside : (offset end last index : ℕ) (ws : List Word) → offset + last ≤ end → AllBefore last ws → RefusedInside end (numbers_from offset index ws)
unfolding AllBefore
numbers_inside offset end last index [] fits all = given_ok [] tt
numbers_inside offset end last index (w ∷ ws) fits all =
    inside_then end (number_at offset index w) _ (number_inside offset end index w (omega (arith, all.0))) (λ n.
    inside_then end (numbers_from offset (index + 1) ws) _ (numbers_inside offset end last (index + 1) ws fits all.1) (λ ns. given_ok (n ∷ ns) tt))

no_record_inside : (offset end : ℕ) → offset < end → RefusedInside {X = Head} end (Err (fault what.Line offset))
no_record_inside offset end low = given_err (fault what.Line offset) ((λ is. absurd cc), low)

alone_inside : (offset end : ℕ) (e : Option Entry) (ws : List Word) → offset < end → RefusedInside end (alone offset e ws)
alone_inside offset end None ws low = no_record_inside offset end low
alone_inside offset end (Some e) ws low = given_if (eqb (length ws) 0) (λ one. given_ok (heads.Whole e) tt) (λ more. no_record_inside offset end low)

frame_inside : (offset end last : ℕ) (ws : List Word) → offset < end → offset + last ≤ end → AllBefore last ws → RefusedInside end (frame_head offset ws)
frame_inside offset end last ws low fits all =
    given_if (eqb (length ws) 12) (λ twelve. inside_then end (numbers_from offset 0 ws) (λ ns. Ok (heads.Frame (rows_in ns))) (numbers_inside offset end last 0 ws fits all) (λ ns. given_ok (heads.Frame (rows_in ns)) tt)) (λ other. no_record_inside offset end low)

coordinate_inside : (offset end : ℕ) (w : Word) → offset + w.at < end → RefusedInside end (coordinate_at offset w)
coordinate_inside offset end w low = on (coordinate_of w.bytes)
  where
    on : (o : Option ℤ) → RefusedInside end (ok_or o (fault what.Number (offset_after offset w.at)))
    on (Some z) = given_ok z tt
    on None = given_err (fault what.Number (offset_after offset w.at)) ((λ is. absurd cc), omega arith)

place_inside : (offset end last : ℕ) (ws : List Word) → offset < end → offset + last ≤ end → AllBefore last ws → RefusedInside end (place_head offset ws)
unfolding AllBefore
place_inside offset end last [] low fits all = no_record_inside offset end low
place_inside offset end last (x ∷ []) low fits all = no_record_inside offset end low
place_inside offset end last (x ∷ y ∷ []) low fits all = no_record_inside offset end low
place_inside offset end last (x ∷ y ∷ z ∷ []) low fits all =
    inside_then end (coordinate_at offset x) _ (coordinate_inside offset end x (omega (arith, all.0))) (λ i.
    inside_then end (coordinate_at offset y) _ (coordinate_inside offset end y (omega (arith, all.1.0))) (λ j.
    inside_then end (coordinate_at offset z) _ (coordinate_inside offset end z (omega (arith, all.1.1.0))) (λ k.
    given_ok (heads.Whole (Place (record { x = i; y = j; z = k }))) tt)))
place_inside offset end last (x ∷ y ∷ z ∷ w ∷ ws) low fits all = no_record_inside offset end low

with_inside : (offset end last : ℕ) (word : List ℕ) (ws : List Word) → offset < end → offset + last ≤ end → AllBefore last ws → RefusedInside end (head_with offset word ws)
with_inside offset end last word ws low fits all = given_if (bytes_eq word (codes "frame")) (λ frame. frame_inside offset end last ws low fits all) (λ other.
    given_if (bytes_eq word (codes "place")) (λ place. place_inside offset end last ws low fits all) (λ other. alone_inside offset end (one_word word) ws low))

in_inside : (offset end last : ℕ) (ws : List Word) → offset < end → offset + last ≤ end → AllBefore last ws → RefusedInside end (head_in offset ws)
unfolding AllBefore
in_inside offset end last [] low fits all = given_ok None tt
in_inside offset end last (w ∷ ws) low fits all = inside_then end (head_with offset w.bytes ws) _ (with_inside offset end last w.bytes ws low fits all.1) (λ head. given_ok (Some head) tt)

head_inside : (offset end : ℕ) (line : List ℕ) → offset + suc (length line) ≤ end → RefusedInside end (head_of offset line)
unfolding head_of words_of
head_inside offset end line fits = in_inside offset end (suc (length line)) (words_of line) (omega arith) fits (words_before (suc (length line)) 0 (slice_split is_blank line) (omega (arith, span_split line)))

-- ---- an entry

-- an entry and the rest of the text, which begins at a byte number
record ReadFront (end : ℕ) (r : Read) (rest : List ℕ) : Type 0 where
  start : ℕ
  offset : r.offset ≡ saturated start
  count : start + length rest ≡ end

pgm_other : (k : PgmKind) → k ≢ pgm.Short → pgm_what k ≢ what.Short
pgm_other pgm.Magic other = λ is. absurd cc
pgm_other pgm.Header other = λ is. absurd cc
pgm_other pgm.Maxval other = λ is. absurd cc
pgm_other pgm.Sample other = λ is. absurd cc
pgm_other pgm.Short other = λ is. absurd (other refl)

depths_front : (offset start end : ℕ) (text : List ℕ) → offset ≡ saturated start → start + length text ≡ end → ScanFront end (λ p rest. length rest ≤ length text) (λ t. turned bad_pgm (pgm_of offset t)) text
depths_front offset start end text at count =
    front_turned bad_pgm text (ap short (omega arith)) (λ why other. (pgm_other why.kind other.0, omega (arith, other.1))) (λ p rest fits. fits) (pgm_front offset text)

frame_front : (left offset start end : ℕ) (rows : PoseRows) (text : List ℕ) → offset ≡ saturated start → start + length text ≡ end → ScanFront end (λ p rest. length rest ≤ length text) (λ t. turned bad_pgm (pgm_of offset t)) text
    → ScanFront end (ReadFront end) (entry_with left offset (heads.Frame rows)) text
frame_front left offset start end rows text at count (whole p rest fits again) =
    whole (record { entry = Frame rows p; left = left; offset = offset_after offset (length text - length rest) }) rest (record { start = start + (length text - length rest); offset = omega arith; count = omega arith }) (λ more.
    let size : length (text ++ more) - length (rest ++ more) ≡ length text - length rest = simp length-append (omega arith) in
    rw (again more, size) refl)
frame_front left offset start end rows text at count (bad why other again) = bad why other (λ more. rw (again more) refl)
frame_front left offset start end rows text at count (cut is) = cut (rw is refl)

entry_front : (left offset start end : ℕ) (head : Head) (text : List ℕ) → offset ≡ saturated start → start + length text ≡ end → ScanFront end (ReadFront end) (entry_with left offset head) text
entry_front left offset start end (heads.Frame rows) text at count = frame_front left offset start end rows text at count (depths_front offset start end text at count)
entry_front left offset start end (heads.Whole e) text at count = front_ok (record { entry = e; left = left; offset = offset }) text (record { start = start; offset = at; count = count })

-- ---- the records

-- a scan ends with its record `end`, or is refused for another cause than an early end
abbrev IsSettled : (end : ℕ) → Ending → Type 0
IsSettled end complete = ⊤
IsSettled end (refused why) = IsInside end why

-- what is read of a text that ends at byte number `end` stays whatever follows, or the text ends too early, and its entries are the first ones of every longer text
data RecordsFront {A : Type 0} (see : A → Records) (end : ℕ) (f : List ℕ → A) (text : List ℕ) : Type 0 where
  settled : IsSettled end (see (f text)).ending → ((more : List ℕ) → f (text ++ more) ≡ f text) → RecordsFront see end f text
  cut_off : (see (f text)).ending ≡ refused (short (saturated end)) → ((more : List ℕ) → (rest : List Entry) × ((see (f (text ++ more))).entries ≡ (see (f text)).entries ++ rest)) → RecordsFront see end f text

abbrev same : Records → Records
same rs = rs

read_whole : {X : Type 0} (sub : List ℕ → Result (X × List ℕ) BadScan) (text : List ℕ) (x : X) (rest : List ℕ) → ((more : List ℕ) → sub (text ++ more) ≡ Ok (x, rest ++ more)) → sub text ≡ Ok (x, rest)
read_whole sub text x rest again = ap sub (sym (append-nil text)) ∙ again [] ∙ ap (λ (l : List ℕ). Ok (x, l)) (append-nil rest)

from_whole : {X : Type 0} (end : ℕ) (sub : List ℕ → Result (X × List ℕ) BadScan) (g : X → List ℕ → Records) (text : List ℕ) (x : X) (rest : List ℕ) → ((more : List ℕ) → sub (text ++ more) ≡ Ok (x, rest ++ more)) → RecordsFront same end (g x) rest
    → RecordsFront same end (λ t. records_from g (sub t)) text
from_whole end sub g text x rest again (settled ends stays) = let first = read_whole sub text x rest again in settled (rw first ends) (λ more. rw (again more, first) (stays more))
from_whole end sub g text x rest again (cut_off ends longer) = let first = read_whole sub text x rest again in cut_off (rw first ends) (λ more. rw (again more, first) (longer more))

records_then : {X : Type 0} {P : X → List ℕ → Type 0} (end : ℕ) (sub : List ℕ → Result (X × List ℕ) BadScan) (g : X → List ℕ → Records) (text : List ℕ) → ScanFront end P sub text → ((x : X) (rest : List ℕ) → P x rest → RecordsFront same end (g x) rest)
    → RecordsFront same end (λ t. records_from g (sub t)) text
records_then end sub g text (whole x rest p again) next = from_whole end sub g text x rest again (next x rest p)
records_then end sub g text (bad why other again) next =
    let first : sub text ≡ Err why = ap sub (sym (append-nil text)) ∙ again [] in
    settled (rw first other) (λ more. rw (again more, first) refl)
records_then end sub g text (cut is) next = cut_off (rw is refl) (λ more. rw is (_, refl))

with_front : (end : ℕ) (e : Entry) (f : List ℕ → Records) (text : List ℕ) (last : Bool) → is_end e ≡ last → RecordsFront same end f text → RecordsFront same end (λ t. records_with e (f t)) text
with_front end e f text true is front = settled (rw is tt) (λ more. rw is refl)
with_front end e f text false is (settled ends stays) = settled (rw is ends) (λ more. rw is (ap (with_entry e) (stays more)))
with_front end e f text false is (cut_off ends longer) = cut_off (rw is ends) (λ more. rw is ((longer more).0, ap (λ (es : List Entry). e ∷ es) (longer more).1))

abbrev EachFront : ℕ → Type 0
EachFront n = (offset start end : ℕ) (text : List ℕ) → offset ≡ saturated start → start + length text ≡ end → RecordsFront same end (records_of n offset) text

after_front : (n offset start end : ℕ) (h : Result (Option Head) BadScan) (text : List ℕ) → EachFront n → RefusedInside end h → offset ≡ saturated start → start + length text ≡ end → RecordsFront same end (records_after n offset (records_of n) h) text
after_front n offset start end (Err why) text each inside at count = settled inside.is (λ more. refl)
after_front n offset start end (Ok None) text each inside at count = each offset start end text at count
after_front n offset start end (Ok (Some head)) text each inside at count =
    records_then end (entry_with n offset head) (λ r more. records_with r.entry (records_of n r.offset more)) text (entry_front n offset start end head text at count)
    (λ r rest from. with_front end r.entry (records_of n r.offset) rest (is_end r.entry) refl (each r.offset from.start end rest from.offset from.count))

none_front : (offset start end : ℕ) (text : List ℕ) → offset ≡ saturated start → start + length text ≡ end → RecordsFront same end (λ t. nothing_but (refused (no_line offset t))) text
none_front offset start end [] at count = cut_off (ap (λ (k : ℕ). refused (short k)) (omega arith)) (λ more. (_, refl))
none_front offset start end (b ∷ text) at count = settled ((λ is. absurd cc), omega arith) (λ more. refl)

records_front : (n : ℕ) → EachFront n
unfolding records_of
records_front zero offset start end text at count = none_front offset start end text at count
records_front (suc n) offset start end text at count =
    records_then end (first_line line_limit offset) (λ line rest. records_after n (offset_after offset (length line + 1)) (records_of n) (head_of offset line) rest) text (line_front line_limit offset start end text at count)
    (λ line rest from. after_front n (offset_after offset (length line + 1)) (start + (length line + 1)) end (head_of offset line) rest (records_front n) (head_inside offset end line (omega (arith, from.count))) (omega arith) from.count)

-- ---- the whole

-- the configuration and the rest of the text, which begins at a byte number
record BegunFront (end : ℕ) (b : Begun) (rest : List ℕ) : Type 0 where
  start : ℕ
  offset : b.offset ≡ saturated start
  count : start + length rest ≡ end

config_inside : (end : ℕ) (line : List ℕ) → 0 < end → RefusedInside end (config_at_start line)
config_inside end line some = on (config_of line)
  where
    on : (r : Result Config _) → RefusedInside end (turned (λ why. fault (what.Config why) 0) r)
    on (Ok c) = given_ok c tt
    on (Err why) = given_err (fault (what.Config why) 0) ((λ is. absurd cc), some)

config_front : (end : ℕ) (line rest : List ℕ) (r : Result Config BadScan) → RefusedInside end r → LineFront 0 end line rest → ScanFront end (BegunFront end) (λ t. r >>= λ c. Ok (record { config = c; offset = offset_after 0 (length line + 1) }, t)) rest
config_front end line rest (Ok c) inside from = front_ok (record { config = c; offset = offset_after 0 (length line + 1) }) rest (record { start = length line + 1; offset = omega arith; count = omega (arith, from.count) })
config_front end line rest (Err why) inside from = bad why inside.is (λ more. refl)

begin_front : (text : List ℕ) → ScanFront (length text) (BegunFront (length text)) begin_of text
unfolding begin_of
begin_front text =
    front_then config_after text (line_front config_line_limit 0 0 (length text) text refl (omega arith))
    (λ line rest from. config_front (length text) line rest (config_at_start line) (config_inside (length text) line (omega (arith, from.count))) from)

scan_begun : (text rest : List ℕ) (b : Begun) → ((more : List ℕ) → begin_of (text ++ more) ≡ Ok (b, rest ++ more)) → RecordsFront same (length text) (records_of lines_after_config b.offset) rest → RecordsFront records_in (length text) (λ t. scan_from (begin_of t)) text
scan_begun text rest b again (settled ends stays) =
    let first = read_whole begin_of text b rest again in
    settled (rw first ends) (λ more. rw (again more, first) (ap (λ (rs : Records). Ok (record { config = b.config; records = rs })) (stays more)))
scan_begun text rest b again (cut_off ends longer) = let first = read_whole begin_of text b rest again in cut_off (rw first ends) (λ more. rw (again more, first) (longer more))

scan_on : (text : List ℕ) → ScanFront (length text) (BegunFront (length text)) begin_of text → RecordsFront records_in (length text) (λ t. scan_from (begin_of t)) text
scan_on text (whole b rest from again) = scan_begun text rest b again (records_front lines_after_config b.offset from.start (length text) rest from.offset from.count)
scan_on text (bad why other again) =
    let first : begin_of text ≡ Err why = ap begin_of (sym (append-nil text)) ∙ again [] in
    settled (rw first other) (λ more. rw (again more, first) refl)
scan_on text (cut is) = cut_off (rw is refl) (λ more. rw is (_, refl))

scan_front : (text : List ℕ) → RecordsFront records_in (length text) scan_of text
unfolding scan_of
scan_front text = scan_on text (begin_front text)

-- ---- the laws

refused_same : (a b : BadScan) → refused a ≡ refused b → a ≡ b
refused_same a b is = cc

end_of_short : {A : Type 0} {see : A → Records} {end : ℕ} {f : List ℕ → A} (text : List ℕ) (why : BadScan) → RecordsFront see end f text → (see (f text)).ending ≡ refused why → why.what ≡ what.Short → why.at ≡ saturated end
end_of_short text why (settled ends stays) is kind = absurd ((rw is at ends).0 kind)
end_of_short {end = end} text why (cut_off at longer) is kind = ap (λ (w : BadScan). w.at) (refused_same why (short (saturated end)) (sym is ∙ at))

not_short : (end : ℕ) (why : BadScan) → refused why ≡ refused (short end) → why.what ≢ what.Short → ⊥
not_short end why is other = other (ap (λ (w : BadScan). w.what) (refused_same why (short end) is))

other_inside : {A : Type 0} {see : A → Records} {end : ℕ} {f : List ℕ → A} (text : List ℕ) (why : BadScan) → RecordsFront see end f text → (see (f text)).ending ≡ refused why → why.what ≢ what.Short → why.at < end
other_inside text why (settled ends stays) is other = (rw is at ends).1
other_inside {end = end} text why (cut_off at longer) is other = absurd (not_short (saturated end) why (sym is ∙ at) other)

other_stays : {A : Type 0} {see : A → Records} {end : ℕ} {f : List ℕ → A} (text more : List ℕ) (why : BadScan) → RecordsFront see end f text → (see (f text)).ending ≡ refused why → why.what ≢ what.Short → f (text ++ more) ≡ f text
other_stays text more why (settled ends stays) is other = stays more
other_stays {end = end} text more why (cut_off at longer) is other = absurd (not_short (saturated end) why (sym is ∙ at) other)

complete_stays_on : {A : Type 0} {see : A → Records} {end : ℕ} {f : List ℕ → A} (text more : List ℕ) → RecordsFront see end f text → (see (f text)).ending ≡ complete → f (text ++ more) ≡ f text
complete_stays_on text more (settled ends stays) is = stays more
complete_stays_on text more (cut_off at longer) is = let e = sym is ∙ at in absurd cc

entries_on : {A : Type 0} {see : A → Records} {end : ℕ} {f : List ℕ → A} (text more : List ℕ) → RecordsFront see end f text → (rest : List Entry) × ((see (f (text ++ more))).entries ≡ (see (f text)).entries ++ rest)
entries_on {see = see} text more (settled ends stays) = ([], ap (λ (a : _). (see a).entries) (stays more) ∙ sym (append-nil _))
entries_on text more (cut_off at longer) = longer more

pub short_is_at_end : ShortIsAtEnd
short_is_at_end text why is kind = end_of_short text why (scan_front text) is kind

pub others_are_inside : OthersAreInside
others_are_inside text why is other = other_inside text why (scan_front text) is other

pub others_stay : OthersStay
others_stay text more why is other = other_stays text more why (scan_front text) is other

pub complete_stays : CompleteStays
complete_stays text more is = complete_stays_on text more (scan_front text) is

pub entries_stay : EntriesStay
entries_stay text more = entries_on text more (scan_front text)
