-- What a run has written so far, and what is to come.
use Rattle.std.proofs.Common.{◌≡◌, ℕ, ◌+◌, Bool, true, false, List, [], ◌∷◌, ◌++◌, Option, None, Some, Result, Ok, Err, length, take, drop, refl, sym, ap, ◌∙◌, append_assoc, arith}
use Rattle.std.proofs.KnownBytes.{Appends-nil, Appends-trans}
use Rattle.std.proofs.lemmas.List.{append-nil, take_at, take-append-drop}
use Rattle.std.proofs.lemmas.List.Folds.{concat-append}
use Rattle.std.proofs.Math.Seq.{take-append-add}
use Rattle.std.specs.List.{concat}
use Rattle.std.specs.Io.KnownBytes.{Appends, prepend_known}
use Rattle.scan_io.specs.Coming.{Grows, Kept, LosesFront}
use Rattle.scan_io.specs.Reading.{Stream, stream, KnownCame, Came, CountedBy, KnownReads, Reads}
use Rattle.scan_io.proofs.ReadingLemmas.{came_none, came_through, counted_on, grows_none, grows_more, loses_feed, loses_more}
use Rattle.scan_lang.specs.Config.{Config}
use Rattle.scan_lang.specs.declared.error.BadScan.{BadScan}
use Rattle.scan_lang.specs.declared.entry.Entry.{Entry}
use Rattle.scan_lang.specs.declared.error.ScanError.{ScanError}
use Rattle.scan_lang.specs.declared.error.ScanError.TheVariants as errors
use Rattle.fusion_cli.specs.declared.run.Stop.TheVariants as stops
use Rattle.scan_lang.specs.Readers.{scan_cause, scan_errors}
use Rattle.scan_lang.specs.Entries.{is_end}
use Rattle.scan_lang.specs.Offsets.{short}
use Rattle.scan_lang.specs.Scan.{Begun, Read, Records, begin_of, entry_at, records_of, records_from, records_with, scan_of, refused, complete, with_entry, lines_after_config}
use Rattle.scan_lang.proofs.RecordLemmas.{further, records_step}
use Rattle.fusion_core.specs.Fold.{State, start}
use Rattle.session.specs.Fold.{after}
use Rattle.session.specs.Output.{reply_text, replies_from, Output, output_of, output_from, all_bytes, first_bytes}
use Rattle.fusion_cli.specs.UnderWay.{IsUnderWay, onward, output_after}
use Rattle.fusion_cli.specs.Run.{Answers, CountsReads, CountsWrites, GivesEnd, IsRisen, IsRun, Told, ended, stop_of}

-- ---- the outputs that are still possible

-- these replies, and no more, since the scan is refused
abbrev stopped : List (List ℕ) → BadScan → Output
stopped done why = record { replies = done; ending = refused why }

-- whatever follows, these replies come first, and a text that is refused ends with them
record StopsAfter {Y : Type 0} (done : List (List ℕ)) (sub : List ℕ → Result (Y × List ℕ) BadScan) (f : List ℕ → Output) : Type 0 where
  first : (t : List ℕ) → (more : List (List ℕ)) × ((f t).replies ≡ done ++ more)
  last : (t : List ℕ) (why : BadScan) → sub t ≡ Err why → f t ≡ stopped done why

first_done : (done more : List (List ℕ)) (o : Output) → o.replies ≡ done ++ more → first_bytes (length done) o ≡ concat done
first_done done more o is = ap (λ (l : List (List ℕ)). concat (take (length done) l)) is ∙ ap concat (take_at done more (length done) refl)

-- ---- the bytes at the exits

memory_known : (done : List (List ℕ)) (f : List ℕ → Output) (a b : ℕ) (before now left old written : Option (List ℕ))
    → KnownCame output_of f a b before now → ((t : List ℕ) → (more : List (List ℕ)) × ((f t).replies ≡ done ++ more)) → Appends old written (concat done) → Answers before left old written (ended (Err stops.NoMemory))
memory_known done f a b None now left old written h first grown = tt
memory_known done f a b (Some text) None left old written h first grown = absurd h
memory_known done f a b (Some text) (Some rest) left old written h first grown =
    let is : output_of text ≡ f rest = ap output_of h.is ∙ h.again rest in
    let begins : (output_of text).replies ≡ done ++ (first rest).0 = ap (λ (o : Output). o.replies) is ∙ (first rest).1 in
    (length done, rw (first_done done (first rest).0 (output_of text) begins) grown)

exit_known : {X Y : Type 0} (view : X → Y) (done : List (List ℕ)) (sub : List ℕ → Result (Y × List ℕ) BadScan) (f : List ℕ → Output) (e : ScanError) (a b c : ℕ) (before now new left old written : Option (List ℕ))
    → StopsAfter done sub f → KnownCame output_of f a b before now → KnownReads {X = X} scan_errors view sub b c now new left (Err e) → Appends old written (concat done) → Answers before left old written (ended (Err (stop_of e)))
exit_known view done sub f e a b c None now new left old written stop h k grown = tt
exit_known view done sub f e a b c (Some text) None new left old written stop h k grown = absurd h
exit_known view done sub f (errors.Bad why) a b c (Some text) (Some rest) new left old written stop h k grown =
    let is : output_of text ≡ stopped done why = ap output_of h.is ∙ h.again rest ∙ stop.last rest why k in
    (ap (λ (o : Output). o.ending) is, rw is grown)
exit_known view done sub f errors.ReadFault a b c (Some text) (Some rest) new None old written stop h k grown = absurd k
exit_known view done sub f errors.ReadFault a b c (Some text) (Some rest) new (Some more) old written stop h k grown =
    let is : output_of (h.front ++ k.0) ≡ stopped done (short k.1) = h.again k.0 ∙ stop.last k.0 (short k.1) k.3 in
    let whole : (output_of text).replies ≡ done ++ (stop.first rest).0 = ap (λ (o : Output). o.replies) (ap output_of h.is ∙ h.again rest) ∙ (stop.first rest).1 in
    let front : (output_of (h.front ++ k.0)).replies ≡ take (length done) (output_of text).replies = ap (λ (o : Output). o.replies) is ∙ sym (take_at done (stop.first rest).0 (length done) refl) ∙ ap (take (length done)) (sym whole) in
    (h.front ++ k.0, h.is ∙ ap (λ (l : List ℕ). h.front ++ l) k.2 ∙ sym (append_assoc h.front k.0 more), (k.1, ap (λ (o : Output). o.ending) is), (length done, front), rw is grown)
exit_known view done sub f errors.NoMemory a b c (Some text) (Some rest) new left old written stop h k grown = memory_known done f a b (Some text) (Some rest) left old written h stop.first grown

-- ---- the counts at the exits

reads_counted : (e : ScanError) (a b : ℕ) → CountedBy a b (scan_cause e) → CountsReads a b (ended (Err (stop_of e)))
reads_counted (errors.Bad why) a b h = h
reads_counted errors.ReadFault a b h = record { later = h.0; rose = h.1 }
reads_counted errors.NoMemory a b h = h

writes_counted : (e : ScanError) (a b : ℕ) → b ≡ a → CountsWrites a b (ended (Err (stop_of e)))
writes_counted (errors.Bad why) a b h = h
writes_counted errors.ReadFault a b h = h
writes_counted errors.NoMemory a b h = h

-- what a source and a sink tell
abbrev pub source_of : Stream → Told
source_of s = record { bytes = s.left; faults = s.faults }

-- a stream of which no byte was given yet
abbrev pub start_of : Stream → Told
start_of s = record { bytes = s.come; faults = s.faults }

-- ---- the configuration line

begin_stops : StopsAfter [] begin_of output_of
unfolding output_of scan_of
begin_stops = record {
  first = λ t. ((output_of t).replies, refl);
  last = λ t why h. rw h refl;
}

-- it can't be read
pub exit_begin : {X : Type 0} (view : X → Begun) (e : ScanError) (before new : Stream) (sink : Told) → LosesFront new.come new.left → Reads {X = X} scan_errors view begin_of before new (Err e) → IsRun (start_of before) (source_of new) sink sink (ended (Err (stop_of e)))
exit_begin view e before new sink drop h = record {
  answer = exit_known view [] begin_of output_of e before.given before.given new.given before.come before.come new.come new.left sink.bytes sink.bytes begin_stops (came_none output_of before).known h.known (Appends-nil sink.bytes);
  front = loses_more h.front drop;
  grows = grows_none sink.bytes;
  reads = reads_counted e before.faults new.faults h.faults;
  writes = writes_counted e sink.faults sink.faults refl;
}

module _ (c : Config) where
  -- ---- one entry more or none

  no_entry : (n offset : ℕ) (text : List ℕ) (why : BadScan) → entry_at n offset text ≡ Err why → records_of n offset text ≡ record { entries = []; ending = refused why }
  no_entry n offset text why h = records_step n offset text ∙ ap (records_from further) h

  one_entry : (n offset : ℕ) (text : List ℕ) (r : Read) (more : List ℕ) → is_end r.entry ≡ false → entry_at n offset text ≡ Ok (r, more) → records_of n offset text ≡ with_entry r.entry (records_of r.left r.offset more)
  one_entry n offset text r more on h = records_step n offset text ∙ ap (records_from further) h ∙ rw on refl

  end_entry : (n offset : ℕ) (text : List ℕ) (r : Read) (more : List ℕ) → is_end r.entry ≡ true → entry_at n offset text ≡ Ok (r, more) → records_of n offset text ≡ record { entries = r.entry ∷ []; ending = complete }
  end_entry n offset text r more on h = records_step n offset text ∙ ap (records_from further) h ∙ rw on refl

  -- ---- the run so far

  output_begun : (text rest : List ℕ) (b : Begun) → b.config ≡ c → begin_of text ≡ Ok (b, rest) → output_of text ≡ output_after c [] start lines_after_config b.offset rest
  unfolding output_of scan_of
  output_begun text rest b is h = rw h (ap (λ (k : Config). output_from k start (records_of lines_after_config b.offset rest)) is)

  pub starts : {X : Type 0} (view : X → Begun) (x : X) (before now : Stream) (sink : Told) → (view x).config ≡ c → Reads scan_errors view begin_of before now (Ok x)
      → IsUnderWay c before now lines_after_config (view x).offset start sink sink
  starts view x before now sink is h = record {
    done = [];
    came = came_through (output_after c [] start lines_after_config (view x).offset) (came_none output_of before) h (λ t rest k. output_begun t rest (view x) is k);
    written = Appends-nil sink.bytes;
    grows = grows_none sink.bytes;
    kept = refl;
  }

  after_entry : (done : List (List ℕ)) (s : State) (n offset : ℕ) (r : Read) (text rest : List ℕ) → is_end r.entry ≡ false → entry_at n offset text ≡ Ok (r, rest) → output_after c done s n offset text ≡ output_after c (done ++ reply_text c s r.entry ∷ []) (after c s r.entry) r.left r.offset rest
  after_entry done s n offset r text rest on h =
      ap (λ (rs : Records). onward done (output_from c s rs)) (one_entry n offset text r rest on h)
      ∙ ap (λ (ts : List (List ℕ)). record { replies = ts; ending = (records_of r.left r.offset rest).ending }) (sym (append_assoc done (reply_text c s r.entry ∷ []) (replies_from c (after c s r.entry) (records_of r.left r.offset rest).entries)))

  one_more : (done : List (List ℕ)) (reply : List ℕ) → concat (done ++ reply ∷ []) ≡ concat done ++ reply
  one_more done reply = concat-append done (reply ∷ []) ∙ ap (λ (l : List ℕ). concat done ++ l) (append-nil reply)

  -- a reply was written
  pub goes_further : {X : Type 0} (view : X → Read) (x : X) (before now new : Stream) (n offset : ℕ) (s : State) (sink mid grown : Told) → is_end (view x).entry ≡ false → IsUnderWay c before now n offset s sink mid → Reads scan_errors view (entry_at n offset) now new (Ok x)
      → Appends mid.bytes grown.bytes (reply_text c s (view x).entry) → Grows mid.bytes grown.bytes → grown.faults ≡ mid.faults → IsUnderWay c before new (view x).left (view x).offset (after c s (view x).entry) sink grown
  goes_further view x before now new n offset s sink mid grown on run h more grows kept = record {
    done = run.done ++ reply_text c s (view x).entry ∷ [];
    came = came_through (output_after c (run.done ++ reply_text c s (view x).entry ∷ []) (after c s (view x).entry) (view x).left (view x).offset) run.came h (λ t rest is. after_entry run.done s n offset (view x) t rest on is);
    written = rw (one_more run.done (reply_text c s (view x).entry)) (Appends-trans sink.bytes mid.bytes grown.bytes (concat run.done) (reply_text c s (view x).entry) run.written more);
    grows = grows_more run.grows grows;
    kept = kept ∙ run.kept;
  }

  -- ---- its exits

  first_replies : (done : List (List ℕ)) (s : State) (n offset : ℕ) (t : List ℕ) → (more : List (List ℕ)) × ((output_after c done s n offset t).replies ≡ done ++ more)
  first_replies done s n offset t = (replies_from c s (records_of n offset t).entries, refl)

  no_more : (done : List (List ℕ)) (s : State) (n offset : ℕ) (text : List ℕ) (why : BadScan) → records_of n offset text ≡ record { entries = []; ending = refused why } → output_after c done s n offset text ≡ stopped done why
  no_more done s n offset text why is =
      ap (λ (rs : Records). onward done (output_from c s rs)) is ∙ ap (λ (ts : List (List ℕ)). record { replies = ts; ending = refused why }) (append-nil done)

  entry_stops : (done : List (List ℕ)) (s : State) (n offset : ℕ) → StopsAfter done (entry_at n offset) (output_after c done s n offset)
  entry_stops done s n offset = record {
    first = first_replies done s n offset;
    last = λ t why h. no_more done s n offset t why (no_entry n offset t why h);
  }

  -- the next entry can't be read
  pub exit_entry : {X : Type 0} (view : X → Read) (e : ScanError) (before now new : Stream) (n offset : ℕ) (s : State) (sink grown : Told) → LosesFront new.come new.left → IsUnderWay c before now n offset s sink grown → Reads {X = X} scan_errors view (entry_at n offset) now new (Err e)
      → IsRun (start_of before) (source_of new) sink grown (ended (Err (stop_of e)))
  exit_entry view e before now new n offset s sink grown drop run h = record {
    answer = exit_known view run.done (entry_at n offset) (output_after c run.done s n offset) e before.given now.given new.given before.come now.come new.come new.left sink.bytes grown.bytes (entry_stops run.done s n offset) run.came.known h.known run.written;
    front = loses_more (loses_more run.came.front h.front) drop;
    grows = run.grows;
    reads = reads_counted e before.faults new.faults (counted_on before.faults now.faults new.faults (scan_cause e) run.came.faults h.faults);
    writes = writes_counted e sink.faults grown.faults run.kept;
  }

  -- out of memory once an entry was read, or before the first
  pub exit_memory : (before now : Stream) (left : Option (List ℕ)) (faults n offset : ℕ) (s : State) (sink grown : Told) → LosesFront now.come left → faults ≡ now.faults → IsUnderWay c before now n offset s sink grown → IsRun (start_of before) (record { bytes = left; faults = faults }) sink grown (ended (Err stops.NoMemory))
  exit_memory before now left faults n offset s sink grown drop kept run = record {
    answer = memory_known run.done (output_after c run.done s n offset) before.given now.given before.come now.come left sink.bytes grown.bytes run.came.known (first_replies run.done s n offset) run.written;
    front = loses_more run.came.front drop;
    grows = run.grows;
    reads = kept ∙ run.came.faults;
    writes = run.kept;
  }

  -- the output of a text whose next entry is known
  entry_known : {X : Type 0} (view : X → Read) (x : X) (done : List (List ℕ)) (s : State) (n offset a b d : ℕ) (text : List ℕ) (now new left : Option (List ℕ)) → KnownCame output_of (output_after c done s n offset) a b (Some text) now → KnownReads scan_errors view (entry_at n offset) b d now new left (Ok x)
      → (rest more : List ℕ) × (output_of text ≡ output_after c done s n offset rest) × (entry_at n offset rest ≡ Ok (view x, more))
  entry_known view x done s n offset a b d text None new left h k = absurd h
  entry_known view x done s n offset a b d text (Some rest) None left h k = absurd k
  entry_known view x done s n offset a b d text (Some rest) (Some more) left h k = (rest, more, ap output_of h.is ∙ h.again rest, ap (entry_at n offset) k.is ∙ k.again more)

  end_output : (done : List (List ℕ)) (s : State) (n offset : ℕ) (rest : List ℕ) (r : Read) (more : List ℕ) → is_end r.entry ≡ true → entry_at n offset rest ≡ Ok (r, more) → output_after c done s n offset rest ≡ record { replies = done ++ reply_text c s r.entry ∷ []; ending = complete }
  end_output done s n offset rest r more on h = ap (λ (rs : Records). onward done (output_from c s rs)) (end_entry n offset rest r more on h)

  -- what was given, with the bytes that the feed keeps, has the end too
  given_end : {X : Type 0} (view : X → Read) (x : X) (done : List (List ℕ)) (s : State) (n offset a b d : ℕ) (text kept : List ℕ) (now left : Option (List ℕ)) → is_end (view x).entry ≡ true → KnownCame output_of (output_after c done s n offset) a b (Some text) now → KnownReads scan_errors view (entry_at n offset) b d now (prepend_known kept left) left (Ok x)
      → GivesEnd text left
  given_end view x done s n offset a b d text kept None left on h k = absurd h
  given_end view x done s n offset a b d text kept (Some rest) None on h k = absurd k
  given_end view x done s n offset a b d text kept (Some rest) (Some more) on h k =
      let part : List ℕ = k.front ++ kept in
      let is : rest ≡ part ++ more = k.is ∙ sym (append_assoc k.front kept more) in
      let end : output_of (h.front ++ part) ≡ record { replies = done ++ reply_text c s (view x).entry ∷ []; ending = complete } = h.again part ∙ end_output done s n offset part (view x) kept on (k.again kept) in
      (h.front ++ part, h.is ∙ ap (λ (l : List ℕ). h.front ++ l) is ∙ sym (append_assoc h.front part more), ap (λ (o : Output). o.ending) end)

  end_known : {X : Type 0} (view : X → Read) (x : X) (done : List (List ℕ)) (s : State) (n offset a b d : ℕ) (kept : List ℕ) (before now left old mid written : Option (List ℕ)) → is_end (view x).entry ≡ true → KnownCame output_of (output_after c done s n offset) a b before now → KnownReads scan_errors view (entry_at n offset) b d now (prepend_known kept left) left (Ok x)
      → Appends old mid (concat done) → Appends mid written (reply_text c s (view x).entry) → Answers before left old written (ended (Ok tt))
  end_known view x done s n offset a b d kept None now left old mid written on h k grown more = tt
  end_known view x done s n offset a b d kept (Some text) now left old mid written on h k grown more =
      let given = given_end view x done s n offset a b d text kept now left on h k in
      let p = entry_known view x done s n offset a b d text now (prepend_known kept left) left h k in
      let is = p.2 ∙ end_output done s n offset p.0 (view x) p.1 on p.3 in
      (given, ap (λ (o : Output). o.ending) is, rw (is, one_more done (reply_text c s (view x).entry)) (Appends-trans old mid written (concat done) (reply_text c s (view x).entry) grown more))

  -- the scan ends
  pub exit_end : {X : Type 0} (view : X → Read) (x : X) (before now : Stream) (feed : Kept) (left : Option (List ℕ)) (faults : ℕ) (n offset : ℕ) (s : State) (sink mid grown : Told) → is_end (view x).entry ≡ true → IsUnderWay c before now n offset s sink mid → Reads scan_errors view (entry_at n offset) now (stream feed left faults) (Ok x)
      → Appends mid.bytes grown.bytes (reply_text c s (view x).entry) → Grows mid.bytes grown.bytes → grown.faults ≡ mid.faults → IsRun (start_of before) (record { bytes = left; faults = faults }) sink grown (ended (Ok tt))
  exit_end view x before now feed left faults n offset s sink mid grown on run h more grows kept = record {
    answer = end_known view x run.done s n offset before.given now.given feed.given feed.bytes before.come now.come left sink.bytes mid.bytes grown.bytes on run.came.known h.known run.written more;
    front = loses_more (loses_more run.came.front h.front) (loses_feed feed left);
    grows = grows_more run.grows grows;
    reads = h.faults ∙ run.came.faults;
    writes = kept ∙ run.kept;
  }

  first_of : (e : Entry) (s : State) (rs : Records) (b : Bool) → is_end e ≡ b → (tail : List (List ℕ)) × ((output_from c s (records_with e rs)).replies ≡ reply_text c s e ∷ tail)
  first_of e s rs true on = ([], rw on refl)
  first_of e s rs false on = (replies_from c (after c s e) rs.entries, rw on refl)

  first_reply : (rest : List ℕ) (r : Read) (more : List ℕ) (n offset : ℕ) (s : State) → entry_at n offset rest ≡ Ok (r, more) → (tail : List (List ℕ)) × ((output_from c s (records_of n offset rest)).replies ≡ reply_text c s r.entry ∷ tail)
  first_reply rest r more n offset s h =
      let f = first_of r.entry s (records_of r.left r.offset more) (is_end r.entry) refl in
      (f.0, ap (λ (rs : Records). (output_from c s rs).replies) (records_step n offset rest ∙ ap (records_from further) h) ∙ f.1)

  front_of : (a b d : List ℕ) (k : ℕ) → take (length a + length (take k b)) (a ++ (b ++ d)) ≡ a ++ take k b
  front_of a b d k =
      let split : b ++ d ≡ take k b ++ (drop k b ++ d) = sym (ap (λ (l : List ℕ). l ++ d) (take-append-drop k b)) ∙ append_assoc (take k b) (drop k b) d in
      take-append-add a (b ++ d) (length (take k b)) ∙ ap (λ (l : List ℕ). a ++ l) (ap (take (length (take k b))) split ∙ take_at (take k b) (drop k b ++ d) (length (take k b)) refl)

  write_known : {X : Type 0} (view : X → Read) (x : X) (done : List (List ℕ)) (s : State) (n offset k a b d : ℕ) (before now new left old mid written : Option (List ℕ)) → KnownCame output_of (output_after c done s n offset) a b before now → KnownReads scan_errors view (entry_at n offset) b d now new left (Ok x)
      → Appends old mid (concat done) → Appends mid written (take k (reply_text c s (view x).entry)) → Answers before left old written (ended (Err stops.WriteFault))
  write_known view x done s n offset k a b d None now new left old mid written h r grown more = tt
  write_known view x done s n offset k a b d (Some text) now new left old mid written h r grown more =
      let bytes_of = reply_text c s (view x).entry in
      let p = entry_known view x done s n offset a b d text now new left h r in
      let first = first_reply p.0 (view x) p.1 n offset s p.3 in
      let bytes : all_bytes (output_of text) ≡ concat done ++ (bytes_of ++ concat first.0) = ap all_bytes p.2 ∙ ap (λ (rs : List (List ℕ)). concat (done ++ rs)) first.1 ∙ concat-append done (bytes_of ∷ first.0) in
      (length (concat done) + length (take k bytes_of), rw (bytes, front_of (concat done) bytes_of (concat first.0) k) (Appends-trans old mid written (concat done) (take k bytes_of) grown more))

  -- the sink failed
  pub exit_write : {X : Type 0} (view : X → Read) (x : X) (before now new : Stream) (n offset : ℕ) (s : State) (sink mid grown : Told) (k : ℕ) → LosesFront new.come new.left → IsUnderWay c before now n offset s sink mid → Reads scan_errors view (entry_at n offset) now new (Ok x)
      → Appends mid.bytes grown.bytes (take k (reply_text c s (view x).entry)) → Grows mid.bytes grown.bytes → IsRisen mid.faults grown.faults → IsRun (start_of before) (source_of new) sink grown (ended (Err stops.WriteFault))
  exit_write view x before now new n offset s sink mid grown k drop run h more grows rose = record {
    answer = write_known view x run.done s n offset k before.given now.given new.given before.come now.come new.come new.left sink.bytes mid.bytes grown.bytes run.came.known h.known run.written more;
    front = loses_more (loses_more run.came.front h.front) drop;
    grows = grows_more run.grows grows;
    reads = h.faults ∙ run.came.faults;
    writes = record { later = omega (arith, run.kept, rose.later); rose = omega (arith, run.kept, rose.rose) };
  }
