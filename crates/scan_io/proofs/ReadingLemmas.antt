-- How readers of a stream follow one another.
use Rattle.std.proofs.Common.{◌≡◌, ℕ, ◌+◌, Bool, true, false, cond, List, [], ◌∷◌, ◌++◌, length, length-append, take, drop, Option, None, Some, Result, Ok, Err, refl, sym, ap, ◌∙◌, append_assoc, min, ◌^◌, ◌-◌, ◌≤◌, arith}
use Rattle.std.proofs.KnownBytes.{Appends-nil, Appends-trans, Consumes-nil, Consumes-trans}
use Rattle.std.proofs.lemmas.List.{take-append-drop, length-take-le}
use Rattle.std.specs.Io.KnownBytes.{Consumes, Keeps, IsAtEnd}
use Rattle.scan_io.specs.Causes.{HasCause}
use Rattle.scan_io.specs.Coming.{Grows, Kept, LosesFront, SameTelling, to_come}
use Rattle.scan_io.specs.Reading.{saturated, Stream, stream, Leads, KnownCame, Came, Cause, refused, failed, no_memory, Errors, CountedBy, KnownRefusal, KnownReads, Reads, byte_at, turned}
use Rattle.scan_io.specs.Steps.{◌>>=◌}
use Rattle.scan_io.specs.declared.fault.Failed.{Failed}

-- ---- fronts that are lost

-- nothing was lost
pub loses_none : (a : Option (List ℕ)) → LosesFront a a
loses_none a = record { telling = refl; front = []; lost = Consumes-nil a }

-- one front after another
pub loses_more : {a b c : Option (List ℕ)} → LosesFront a b → LosesFront b c → LosesFront a c
loses_more {a = a} {b = b} {c = c} p q = record { telling = q.telling ∙ p.telling; front = p.front ++ q.front; lost = Consumes-trans a b c p.front q.front p.lost q.lost }

same_telling : (bytes more : List ℕ) (old new : Option (List ℕ)) → SameTelling old new → SameTelling (to_come (record { bytes = bytes; given = 0 }) old) (to_come (record { bytes = more; given = 0 }) new)
same_telling bytes more None None h = refl
same_telling bytes more None (Some new) h = h
same_telling bytes more (Some old) None h = h
same_telling bytes more (Some old) (Some new) h = refl

keeps_consumes : (a b : Option (List ℕ)) → Keeps a b → Consumes a b []
keeps_consumes None b h = tt
keeps_consumes (Some xs) None h = h
keeps_consumes (Some xs) (Some ys) h = sym h

dropped : (feed : Kept) (left : Option (List ℕ)) → Consumes (to_come feed left) left feed.bytes
dropped feed None = tt
dropped feed (Some rest) = refl

told_as : (feed : Kept) (left : Option (List ℕ)) → SameTelling (to_come feed left) left
told_as feed None = refl
told_as feed (Some rest) = refl

-- what a feed keeps is lost with it
pub loses_feed : (feed : Kept) (left : Option (List ℕ)) → LosesFront (to_come feed left) left
loses_feed feed left = record { telling = told_as feed left; front = feed.bytes; lost = dropped feed left }

kept_apart : (feed next : Kept) (front : List ℕ) (left : Option (List ℕ)) → feed.bytes ≡ front ++ next.bytes → Consumes (to_come feed left) (to_come next left) front
kept_apart feed next front None is = tt
kept_apart feed next front (Some rest) is = ap (λ (l : List ℕ). l ++ rest) is ∙ append_assoc front next.bytes rest

-- a feed gave some of the bytes that it keeps
pub loses_kept : (feed next : Kept) (front : List ℕ) (left : Option (List ℕ)) → feed.bytes ≡ front ++ next.bytes → LosesFront (to_come feed left) (to_come next left)
loses_kept feed next front left is = record { telling = same_telling feed.bytes next.bytes left left refl; front = front; lost = kept_apart feed next front left is }

-- a feed was filled, and lost nothing
pub loses_nothing : (feed next : Kept) (old new : Option (List ℕ)) → Keeps (to_come feed old) (to_come next new) → SameTelling old new → LosesFront (to_come feed old) (to_come next new)
loses_nothing feed next old new h telling = record { telling = same_telling feed.bytes next.bytes old new telling; front = []; lost = keeps_consumes (to_come feed old) (to_come next new) h }

-- ---- bytes that are gained

-- nothing was gained
pub grows_none : (a : Option (List ℕ)) → Grows a a
grows_none a = record { telling = refl; more = []; gained = Appends-nil a }

-- some bytes after others
pub grows_more : {a b c : Option (List ℕ)} → Grows a b → Grows b c → Grows a c
grows_more {a = a} {b = b} {c = c} p q = record { telling = q.telling ∙ p.telling; more = p.more ++ q.more; gained = Appends-trans a b c p.more q.more p.gained q.gained }

-- ---- what was read so far

known_none : {R : Type 0} (f : List ℕ → R) (n : ℕ) (old : Option (List ℕ)) → KnownCame f f n n old old
known_none f n None = tt
known_none f n (Some text) = record { front = []; is = refl; count = ap saturated (omega arith); again = λ other. refl }

-- nothing was read
pub came_none : {R : Type 0} (f : List ℕ → R) (old : Stream) → Came f f old old
came_none f old = record { known = known_none f old.given old.come; front = loses_none old.come; faults = refl }

known_same : {R : Type 0} (whole f g : List ℕ → R) (a b : ℕ) (old new : Option (List ℕ)) → KnownCame whole f a b old new → ((t : List ℕ) → f t ≡ g t) → KnownCame whole g a b old new
known_same whole f g a b None new h same = tt
known_same whole f g a b (Some text) None h same = absurd h
known_same whole f g a b (Some text) (Some rest) h same = record { front = h.front; is = h.is; count = h.count; again = λ other. h.again other ∙ same other }

-- what is left to do, said otherwise
pub came_same : {R : Type 0} {whole f : List ℕ → R} (g : List ℕ → R) {old new : Stream} → Came whole f old new → ((t : List ℕ) → f t ≡ g t) → Came whole g old new
came_same {whole = whole} {f = f} g {old = old} {new = new} h same = record { known = known_same whole f g old.given new.given old.come new.come h.known same; front = h.front; faults = h.faults }

count_on : (a b c : ℕ) (front more : List ℕ) → saturated b ≡ saturated (a + length front) → saturated c ≡ saturated (b + length more) → saturated c ≡ saturated (a + length (front ++ more))
count_on a b c front more p q = simp length-append (omega arith)

known_step : {X Y B E W : Type 0} (errors : Errors E W) (view : X → Y) (whole f : List ℕ → Result (B × List ℕ) W) (sub : List ℕ → Result (Y × List ℕ) W) (g : Y → List ℕ → Result (B × List ℕ) W) (x : X) (a b c : ℕ) (old mid new left : Option (List ℕ))
    → KnownCame whole f a b old mid → KnownReads errors view sub b c mid new left (Ok x) → ((t : List ℕ) → f t ≡ (sub t >>= λ p. g p.0 p.1)) → KnownCame whole (g (view x)) a c old new
known_step errors view whole f sub g x a b c None mid new left h k split = tt
known_step errors view whole f sub g x a b c (Some text) None new left h k split = absurd h
known_step errors view whole f sub g x a b c (Some text) (Some more) None left h k split = absurd k
known_step errors view whole f sub g x a b c (Some text) (Some more) (Some rest) left h k split = record {
  front = h.front ++ k.front;
  is = h.is ∙ ap (λ (l : List ℕ). h.front ++ l) k.is ∙ sym (append_assoc h.front k.front rest);
  count = count_on a b c h.front k.front h.count k.count;
  again = λ other. rw (append_assoc, h.again (k.front ++ other), split (k.front ++ other), k.again other) refl;
}

-- a reader gave the next part
pub came_step : {X Y B E W : Type 0} {errors : Errors E W} {view : X → Y} {whole f : List ℕ → Result (B × List ℕ) W} {sub : List ℕ → Result (Y × List ℕ) W} (g : Y → List ℕ → Result (B × List ℕ) W) {x : X} {old mid new : Stream}
    → Came whole f old mid → Reads errors view sub mid new (Ok x) → ((t : List ℕ) → f t ≡ (sub t >>= λ p. g p.0 p.1)) → Came whole (g (view x)) old new
came_step {errors = errors} {view = view} {whole = whole} {f = f} {sub = sub} g {x = x} {old = old} {mid = mid} {new = new} h k split = record {
  known = known_step errors view whole f sub g x old.given mid.given new.given old.come mid.come new.come new.left h.known k.known split;
  front = loses_more h.front k.front;
  faults = k.faults ∙ h.faults;
}

known_through : {R X Y E W : Type 0} (errors : Errors E W) (view : X → Y) (whole f g : List ℕ → R) (sub : List ℕ → Result (Y × List ℕ) W) (x : X) (a b c : ℕ) (old mid new left : Option (List ℕ))
    → KnownCame whole f a b old mid → KnownReads errors view sub b c mid new left (Ok x) → ((t rest : List ℕ) → sub t ≡ Ok (view x, rest) → f t ≡ g rest) → KnownCame whole g a c old new
known_through errors view whole f g sub x a b c None mid new left h k step = tt
known_through errors view whole f g sub x a b c (Some text) None new left h k step = absurd h
known_through errors view whole f g sub x a b c (Some text) (Some more) None left h k step = absurd k
known_through errors view whole f g sub x a b c (Some text) (Some more) (Some rest) left h k step = record {
  front = h.front ++ k.front;
  is = h.is ∙ ap (λ (l : List ℕ). h.front ++ l) k.is ∙ sym (append_assoc h.front k.front rest);
  count = count_on a b c h.front k.front h.count k.count;
  again = λ other. ap whole (append_assoc h.front k.front other) ∙ h.again (k.front ++ other) ∙ step (k.front ++ other) other (k.again other);
}

-- a reader gave the next part, from which follows what is left to do
pub came_through : {R X Y E W : Type 0} {errors : Errors E W} {view : X → Y} {whole f : List ℕ → R} (g : List ℕ → R) {sub : List ℕ → Result (Y × List ℕ) W} {x : X} {old mid new : Stream}
    → Came whole f old mid → Reads errors view sub mid new (Ok x) → ((t rest : List ℕ) → sub t ≡ Ok (view x, rest) → f t ≡ g rest) → Came whole g old new
came_through {errors = errors} {view = view} {whole = whole} {f = f} g {sub = sub} {x = x} {old = old} {mid = mid} {new = new} h k step = record {
  known = known_through errors view whole f g sub x old.given mid.given new.given old.come mid.come new.come new.left h.known k.known step;
  front = loses_more h.front k.front;
  faults = k.faults ∙ h.faults;
}

-- ---- the ends of a reader

refusal_on : {Y B W : Type 0} (ended : ℕ → W) (whole f : List ℕ → Result (B × List ℕ) W) (sub : List ℕ → Result (Y × List ℕ) W) (g : Y → List ℕ → Result (B × List ℕ) W) (k : Cause W) (a b : ℕ) (text more : List ℕ) (left : Option (List ℕ))
    → Leads whole f a b text more → KnownRefusal ended sub more left k → ((t : List ℕ) → f t ≡ (sub t >>= λ p. g p.0 p.1)) → KnownRefusal ended whole text left k
refusal_on ended whole f sub g (refused why) a b text more left h k split =
    ap whole h.is ∙ h.again more ∙ split more ∙ ap (λ (r : Result _ _). r >>= λ p. g p.0 p.1) k
refusal_on ended whole f sub g failed a b text more None h k split = absurd k
refusal_on ended whole f sub g failed a b text more (Some further) h k split =
    (h.front ++ k.0, k.1, h.is ∙ ap (λ (l : List ℕ). h.front ++ l) k.2 ∙ sym (append_assoc h.front k.0 further), h.again k.0 ∙ split k.0 ∙ ap (λ (r : Result _ _). r >>= λ p. g p.0 p.1) k.3)
refusal_on ended whole f sub g no_memory a b text more left h k split = tt

known_err : {X Y Z B E W : Type 0} (errors : Errors E W) (view : X → Y) (see : Z → B) (whole f : List ℕ → Result (B × List ℕ) W) (sub : List ℕ → Result (Y × List ℕ) W) (g : Y → List ℕ → Result (B × List ℕ) W) (e : E) (a b c : ℕ) (old mid new left : Option (List ℕ))
    → KnownCame whole f a b old mid → KnownReads errors view sub b c mid new left (Err e) → ((t : List ℕ) → f t ≡ (sub t >>= λ p. g p.0 p.1)) → KnownReads errors see whole a c old new left (Err e)
known_err errors view see whole f sub g e a b c None mid new left h k split = tt
known_err errors view see whole f sub g e a b c (Some text) None new left h k split = absurd h
known_err errors view see whole f sub g e a b c (Some text) (Some more) new left h k split = refusal_on errors.ended whole f sub g (errors.cause e) a b text more left h k split

-- a count that stood still before
pub counted_on : {W : Type 0} (a b c : ℕ) (k : Cause W) → b ≡ a → CountedBy b c k → CountedBy a c k
counted_on a b c (refused why) same k = k ∙ same
counted_on a b c failed same k = (omega (arith, same, k.0), omega (arith, same, k.1))
counted_on a b c no_memory same k = k ∙ same

-- a reader gave no next part
pub came_err : {X Y Z B E W : Type 0} {errors : Errors E W} {view : X → Y} (see : Z → B) {whole f : List ℕ → Result (B × List ℕ) W} {sub : List ℕ → Result (Y × List ℕ) W} (g : Y → List ℕ → Result (B × List ℕ) W) {e : E} {old mid new : Stream}
    → Came whole f old mid → Reads errors view sub mid new (Err e) → ((t : List ℕ) → f t ≡ (sub t >>= λ p. g p.0 p.1)) → Reads errors see whole old new (Err e)
came_err {errors = errors} {view = view} see {whole = whole} {f = f} {sub = sub} g {e = e} {old = old} {mid = mid} {new = new} h k split = record {
  known = known_err errors view see whole f sub g e old.given mid.given new.given old.come mid.come new.come new.left h.known k.known split;
  front = loses_more h.front k.front;
  faults = counted_on old.faults mid.faults new.faults (errors.cause e) h.faults k.faults;
}

known_ok : {Z B E W : Type 0} (errors : Errors E W) (see : Z → B) (whole f : List ℕ → Result (B × List ℕ) W) (z : Z) (a b : ℕ) (old new left : Option (List ℕ)) → KnownCame whole f a b old new → ((t : List ℕ) → f t ≡ Ok (see z, t)) → KnownReads errors see whole a b old new left (Ok z)
known_ok errors see whole f z a b None new left h is = tt
known_ok errors see whole f z a b (Some text) None left h is = absurd h
known_ok errors see whole f z a b (Some text) (Some rest) left h is = record { front = h.front; is = h.is; count = h.count; again = λ other. h.again other ∙ is other }

-- all was read
pub came_ok : {Z B E W : Type 0} {errors : Errors E W} (see : Z → B) {whole f : List ℕ → Result (B × List ℕ) W} (z : Z) {old new : Stream} → Came whole f old new → ((t : List ℕ) → f t ≡ Ok (see z, t)) → Reads errors see whole old new (Ok z)
came_ok {errors = errors} see {whole = whole} {f = f} z {old = old} {new = new} h is = record {
  known = known_ok errors see whole f z old.given new.given old.come new.come new.left h.known is;
  front = h.front;
  faults = h.faults;
}

refusal_bad : {B W : Type 0} (ended : ℕ → W) (whole f : List ℕ → Result (B × List ℕ) W) (why : W) (k : Cause W) (a b : ℕ) (text rest : List ℕ) (left : Option (List ℕ)) → k ≡ refused why → Leads whole f a b text rest → ((t : List ℕ) → f t ≡ Err why) → KnownRefusal ended whole text left k
refusal_bad ended whole f why k a b text rest left cause h is = rw cause (ap whole h.is ∙ h.again rest ∙ is rest)

known_bad : {Z B E W : Type 0} (errors : Errors E W) (see : Z → B) (whole f : List ℕ → Result (B × List ℕ) W) (why : W) (e : E) (a b : ℕ) (old new left : Option (List ℕ)) → errors.cause e ≡ refused why → KnownCame whole f a b old new → ((t : List ℕ) → f t ≡ Err why) → KnownReads errors see whole a b old new left (Err e)
known_bad errors see whole f why e a b None new left cause h is = tt
known_bad errors see whole f why e a b (Some text) None left cause h is = absurd h
known_bad errors see whole f why e a b (Some text) (Some rest) left cause h is = refusal_bad errors.ended whole f why (errors.cause e) a b text rest left cause h is

-- what was read is refused whatever follows
pub came_bad : {Z B E W : Type 0} (errors : Errors E W) (see : Z → B) {whole f : List ℕ → Result (B × List ℕ) W} (why : W) (e : E) {old new : Stream} → errors.cause e ≡ refused why → Came whole f old new → ((t : List ℕ) → f t ≡ Err why) → Reads errors see whole old new (Err e)
came_bad errors see {whole = whole} {f = f} why e {old = old} {new = new} cause h is = record {
  known = known_bad errors see whole f why e old.given new.given old.come new.come new.left cause h.known is;
  front = h.front;
  faults = rw cause h.faults;
}

refusal_memory : {B W : Type 0} (ended : ℕ → W) (whole : List ℕ → Result (B × List ℕ) W) (k : Cause W) (text : List ℕ) (left : Option (List ℕ)) → k ≡ no_memory → KnownRefusal ended whole text left k
refusal_memory ended whole k text left cause = rw cause tt

known_memory : {Z B E W : Type 0} (errors : Errors E W) (see : Z → B) (whole : List ℕ → Result (B × List ℕ) W) (e : E) (a b : ℕ) (old new left : Option (List ℕ)) → errors.cause e ≡ no_memory → KnownReads errors see whole a b old new left (Err e)
known_memory errors see whole e a b None new left cause = tt
known_memory errors see whole e a b (Some text) new left cause = refusal_memory errors.ended whole (errors.cause e) text left cause

-- a reader is out of memory
pub reads_memory : {Z B E W : Type 0} (errors : Errors E W) (see : Z → B) {whole f : List ℕ → Result (B × List ℕ) W} (e : E) {old new : Stream} → errors.cause e ≡ no_memory → Came whole f old new → Reads errors see whole old new (Err e)
reads_memory errors see {whole = whole} e {old = old} {new = new} cause h = record {
  known = known_memory errors see whole e old.given new.given old.come new.come new.left cause;
  front = h.front;
  faults = rw cause h.faults;
}

bind_whole : {B W : Type 0} (r : Result (B × List ℕ) W) → r ≡ (r >>= λ p. Ok (p.0, p.1))
bind_whole (Ok p) = refl
bind_whole (Err why) = refl

-- a reader did the rest
pub came_last : {X Y E W : Type 0} {errors : Errors E W} {view : X → Y} {whole f : List ℕ → Result (Y × List ℕ) W} (sub : List ℕ → Result (Y × List ℕ) W) (r : Result X E) {old mid new : Stream}
    → Came whole f old mid → Reads errors view sub mid new r → ((t : List ℕ) → f t ≡ sub t) → Reads errors view whole old new r
came_last {view = view} sub (Ok x) h k same = came_ok view x (came_step (λ y t. Ok (y, t)) h k (λ t. same t ∙ bind_whole (sub t))) (λ t. refl)
came_last {view = view} sub (Err e) h k same = came_err view (λ y t. Ok (y, t)) h k (λ t. same t ∙ bind_whole (sub t))

-- a test did the rest
pub came_tested : {X B E W : Type 0} (errors : Errors E W) (see : X → B) {whole f : List ℕ → Result (B × List ℕ) W} (t : Bool) (x : X) (why : W) (e : E) (r : Result X E) {old new : Stream}
    → errors.cause e ≡ refused why → Came whole f old new → r ≡ cond t (Ok x) (Err e) → ((s : List ℕ) → f s ≡ cond t (Ok (see x, s)) (Err why)) → Reads errors see whole old new r
came_tested errors see true x why e r cause h is same = rw is (came_ok see x h same)
came_tested errors see false x why e r cause h is same = rw is (came_bad errors see why e cause h same)

-- ---- one byte

byte_known : {E W : Type 0} (errors : Errors E W) (n b before now : ℕ) (old new left : Option (List ℕ)) → now ≡ min (before + 1) (2 ^ 64 - 1) → Consumes old new (b ∷ []) → KnownReads errors (λ (x : ℕ). x) (byte_at errors.ended n) before now old new left (Ok b)
byte_known errors n b before now None new left count h = tt
byte_known errors n b before now (Some text) None left count h = absurd h
byte_known errors n b before now (Some text) (Some rest) left count h = record { front = b ∷ []; is = h; count = omega arith; again = λ other. refl }

-- a feed gave a byte
pub byte_given : {E W : Type 0} (errors : Errors E W) (n b : ℕ) (old new : Stream) → new.given ≡ min (old.given + 1) (2 ^ 64 - 1) → Consumes old.come new.come (b ∷ []) → LosesFront old.come new.come → new.faults ≡ old.faults → Reads errors (λ (x : ℕ). x) (byte_at errors.ended n) old new (Ok b)
byte_given errors n b old new count h front faults = record { known = byte_known errors n b old.given new.given old.come new.come new.left count h; front = front; faults = faults }

end_refusal : {W : Type 0} (ended : ℕ → W) (n : ℕ) (k : Cause W) (text : List ℕ) (left : Option (List ℕ)) → k ≡ refused (ended n) → text ≡ [] → KnownRefusal ended (byte_at ended n) text left k
end_refusal ended n k text left cause h = rw (cause, h) refl

end_known : {E W : Type 0} (errors : Errors E W) (n : ℕ) (e : E) (before now : ℕ) (old new left : Option (List ℕ)) → errors.cause e ≡ refused (errors.ended n) → IsAtEnd old → KnownReads errors (λ (x : ℕ). x) (byte_at errors.ended n) before now old new left (Err e)
end_known errors n e before now None new left cause h = tt
end_known errors n e before now (Some text) new left cause h = end_refusal errors.ended n (errors.cause e) text left cause h

-- a feed was at the end of input
pub byte_end : {E W : Type 0} (errors : Errors E W) (n : ℕ) (e : E) (old new : Stream) → errors.cause e ≡ refused (errors.ended n) → IsAtEnd old.come → LosesFront old.come new.come → new.faults ≡ old.faults → Reads errors (λ (x : ℕ). x) (byte_at errors.ended n) old new (Err e)
byte_end errors n e old new cause h front faults = record { known = end_known errors n e old.given new.given old.come new.come new.left cause h; front = front; faults = rw cause faults }

fault_refusal : {W : Type 0} (ended : ℕ → W) (n : ℕ) (k : Cause W) (text rest : List ℕ) (feed : Kept) → k ≡ failed → feed.bytes ++ rest ≡ text → feed.bytes ≡ [] → KnownRefusal ended (byte_at ended n) text (Some rest) k
fault_refusal ended n k text rest feed cause stays none = rw cause ([], n, sym stays ∙ ap (λ (l : List ℕ). l ++ rest) none, refl)

fault_known : {E W : Type 0} (errors : Errors E W) (n : ℕ) (e : E) (before : ℕ) (old left : Option (List ℕ)) (feed : Kept) → errors.cause e ≡ failed → Keeps old (to_come feed left) → feed.bytes ≡ [] → KnownReads errors (λ (x : ℕ). x) (byte_at errors.ended n) before feed.given old (to_come feed left) left (Err e)
fault_known errors n e before None left feed cause stays none = tt
fault_known errors n e before (Some text) None feed cause stays none = absurd stays
fault_known errors n e before (Some text) (Some rest) feed cause stays none = fault_refusal errors.ended n (errors.cause e) text rest feed cause stays none

-- the source failed, and the feed keeps no byte
pub byte_fault : {E W : Type 0} (errors : Errors E W) (n : ℕ) (e : E) (old : Stream) (left : Option (List ℕ)) (faults : ℕ) (feed : Kept) → errors.cause e ≡ failed → Keeps old.come (to_come feed left) → feed.bytes ≡ [] → LosesFront old.come (to_come feed left) → HasCause {T = Option ℕ} {E = Failed} old.faults faults (Err (record {}))
    → Reads errors (λ (x : ℕ). x) (byte_at errors.ended n) old (stream feed left faults) (Err e)
byte_fault errors n e old left faults feed cause stays none front count = record { known = fault_known errors n e old.given old.come left feed cause stays none; front = front; faults = rw cause (count.later, count.failed) }

-- ---- many bytes at once

given_known : {R : Type 0} (whole f g : List ℕ → R) (a : ℕ) (old left : Option (List ℕ)) (front : List ℕ) (feed next : Kept) → KnownCame whole f a feed.given old (to_come feed left) → feed.bytes ≡ front ++ next.bytes → next.given ≡ min (feed.given + length front) (2 ^ 64 - 1) → ((t : List ℕ) → f (front ++ t) ≡ g t)
    → KnownCame whole g a next.given old (to_come next left)
given_known whole f g a None left front feed next h split count is = tt
given_known whole f g a (Some text) None front feed next h split count is = absurd h
given_known whole f g a (Some text) (Some rest) front feed next h split count is =
    let bytes : feed.bytes ++ rest ≡ front ++ (next.bytes ++ rest) = kept_apart feed next front (Some rest) split in
    record {
      front = h.front ++ front;
      is = h.is ∙ ap (λ (l : List ℕ). h.front ++ l) bytes ∙ sym (append_assoc h.front front (next.bytes ++ rest));
      count = count_on a feed.given next.given h.front front h.count (omega arith);
      again = λ other. rw (append_assoc, h.again (front ++ other), is other) refl;
    }

-- a feed gave the first count of the bytes that it keeps, and read before any other bytes they leave this to do
pub came_given : {R : Type 0} {whole f : List ℕ → R} (g : List ℕ → R) (count : ℕ) (feed next : Kept) (left : Option (List ℕ)) (faults : ℕ) {old : Stream}
    → Came whole f old (stream feed left faults) → count ≤ length feed.bytes → next.bytes ≡ drop count feed.bytes → next.given ≡ min (feed.given + count) (2 ^ 64 - 1) → ((t : List ℕ) → f (take count feed.bytes ++ t) ≡ g t) → Came whole g old (stream next left faults)
came_given {whole = whole} {f = f} g count feed next left faults {old = old} h fits rest given is =
    let split : feed.bytes ≡ take count feed.bytes ++ next.bytes = rw rest (sym (take-append-drop count feed.bytes)) in
    let size : length (take count feed.bytes) ≡ count = length-take-le count feed.bytes fits in
    record {
      known = given_known whole f g old.given old.come left (take count feed.bytes) feed next h.known split (rw size given) is;
      front = loses_more h.front (loses_kept feed next (take count feed.bytes) left split);
      faults = h.faults;
    }

-- ---- one reading in another

known_on : {R : Type 0} (whole f g : List ℕ → R) (a b c : ℕ) (old mid new : Option (List ℕ)) → KnownCame whole f a b old mid → KnownCame f g b c mid new → KnownCame whole g a c old new
known_on whole f g a b c None mid new h k = tt
known_on whole f g a b c (Some text) None new h k = absurd h
known_on whole f g a b c (Some text) (Some more) None h k = absurd k
known_on whole f g a b c (Some text) (Some more) (Some rest) h k = record {
  front = h.front ++ k.front;
  is = h.is ∙ ap (λ (l : List ℕ). h.front ++ l) k.is ∙ sym (append_assoc h.front k.front rest);
  count = count_on a b c h.front k.front h.count k.count;
  again = λ other. rw (append_assoc, h.again (k.front ++ other), k.again other) refl;
}

-- more was read of what was left to do
pub came_on : {R : Type 0} {whole f g : List ℕ → R} {old mid new : Stream} → Came whole f old mid → Came f g mid new → Came whole g old new
came_on {whole = whole} {f = f} {g = g} {old = old} {mid = mid} {new = new} h k = record {
  known = known_on whole f g old.given mid.given new.given old.come mid.come new.come h.known k.known;
  front = loses_more h.front k.front;
  faults = k.faults ∙ h.faults;
}

-- ---- refusals said otherwise

-- the same cause, with its refusal said otherwise
abbrev pub cause_turned : {W V : Type 0} → (W → V) → Cause W → Cause V
cause_turned f (refused why) = refused (f why)
cause_turned f failed = failed
cause_turned f no_memory = no_memory

-- an early end stays one
pub record KeepsEnds {W V : Type 0} (f : W → V) (ended : ℕ → W) (ended_as : ℕ → V) : Type 0 where
  pub offset : ℕ → ℕ
  pub is : (n : ℕ) → f (ended n) ≡ ended_as (offset n)

turned_refusal : {Y W V : Type 0} (ended : ℕ → W) (ended_as : ℕ → V) (f : W → V) (parse : List ℕ → Result (Y × List ℕ) W) (k : Cause W) (l : Cause V) (text : List ℕ) (left : Option (List ℕ))
    → KeepsEnds f ended ended_as → l ≡ cause_turned f k → KnownRefusal ended parse text left k → KnownRefusal ended_as (λ t. turned f (parse t)) text left l
turned_refusal ended ended_as f parse (refused why) l text left ends is h = rw is (ap (turned f) h)
turned_refusal ended ended_as f parse failed l text None ends is h = absurd h
turned_refusal ended ended_as f parse failed l text (Some rest) ends is h = rw is (h.0, ends.offset h.1, h.2, ap (turned f) h.3 ∙ ap Err (ends.is h.1))
turned_refusal ended ended_as f parse no_memory l text left ends is h = rw is tt

turned_err_known : {X Z Y E W F V : Type 0} (errors : Errors E W) (others : Errors F V) (f : W → V) (view : X → Y) (see : Z → Y) (parse : List ℕ → Result (Y × List ℕ) W) (e : E) (o : F) (a b : ℕ) (old new left : Option (List ℕ))
    → KeepsEnds f errors.ended others.ended → others.cause o ≡ cause_turned f (errors.cause e) → KnownReads errors view parse a b old new left (Err e) → KnownReads others see (λ t. turned f (parse t)) a b old new left (Err o)
turned_err_known errors others f view see parse e o a b None new left ends is h = tt
turned_err_known errors others f view see parse e o a b (Some text) new left ends is h = turned_refusal errors.ended others.ended f parse (errors.cause e) (others.cause o) text left ends is h

turned_counted : {W V : Type 0} (f : W → V) (a b : ℕ) (k : Cause W) → CountedBy a b k → CountedBy a b (cause_turned f k)
turned_counted f a b (refused why) h = h
turned_counted f a b failed h = h
turned_counted f a b no_memory h = h

-- the reader above gives its own error for that of a reader
pub reads_turned_err : {X Z Y E W F V : Type 0} {errors : Errors E W} (others : Errors F V) (f : W → V) {view : X → Y} (see : Z → Y) {parse : List ℕ → Result (Y × List ℕ) W} {e : E} (o : F) {old new : Stream}
    → KeepsEnds f errors.ended others.ended → others.cause o ≡ cause_turned f (errors.cause e) → Reads errors view parse old new (Err e) → Reads others see (λ t. turned f (parse t)) old new (Err o)
reads_turned_err {errors = errors} others f {view = view} see {parse = parse} {e = e} o {old = old} {new = new} ends is h = record {
  known = turned_err_known errors others f view see parse e o old.given new.given old.come new.come new.left ends is h.known;
  front = h.front;
  faults = rw is (turned_counted f old.faults new.faults (errors.cause e) h.faults);
}
