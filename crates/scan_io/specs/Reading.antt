-- What readers of a stream give.
use Rattle.std.specs.Prelude.{◌≡◌, ℕ, ◌+◌, ◌-◌, ◌^◌, ◌≤◌, ⊤, min, length, List, [], ◌∷◌, ◌++◌, Option, None, Some, Result, Ok, Err}
use Rattle.scan_io.specs.Causes.{Rose}
use Rattle.scan_io.specs.Coming.{Kept, LosesFront, to_come}

-- a number of bytes; it saturates at its greatest value
abbrev pub saturated : ℕ → ℕ
saturated n = min n (2 ^ 64 - 1)

-- a stream: the bytes to come and, of these, what the source has left, where they are known; how many bytes were given; and how often the source failed
pub record Stream : Type 0 where
  pub come : Option (List ℕ)
  pub left : Option (List ℕ)
  pub given : ℕ
  pub faults : ℕ

-- what a feed keeps, and then what a source has left
abbrev pub stream : Kept → (left : Option (List ℕ)) → (faults : ℕ) → Stream
stream feed left faults = record { come = to_come feed left; left = left; given = feed.given; faults = faults }

-- a source of which no byte was given
abbrev pub unread : (left : Option (List ℕ)) → (faults : ℕ) → Stream
unread left faults = record { come = left; left = left; given = 0; faults = faults }

-- the bytes are known, and P holds of them
abbrev pub StaysKnown : Option (List ℕ) → (List ℕ → Type 0) → Type 0
StaysKnown None P = ⊥
StaysKnown (Some bytes) P = P bytes

-- ---- what was read so far

-- the text is some front and the rest, the front was given, and before any other rest the whole reading is the further reading of that rest
pub record Leads {R : Type 0} (whole further : List ℕ → R) (before now : ℕ) (text rest : List ℕ) : Type 0 where
  pub front : List ℕ
  pub is : text ≡ front ++ rest
  pub count : saturated now ≡ saturated (before + length front)
  pub again : (other : List ℕ) → whole (front ++ other) ≡ further other

-- where the text is known, so is its rest, and the front between them was read
abbrev pub KnownCame : {R : Type 0} → (whole further : List ℕ → R) → (before now : ℕ) → (old new : Option (List ℕ)) → Type 0
KnownCame whole further before now None new = ⊤
KnownCame whole further before now (Some text) new = StaysKnown new (λ rest. Leads whole further before now text rest)

-- a front of the bytes to come was read, from old to new: what is left to do is further; the source did not fail
pub record Came {R : Type 0} (whole further : List ℕ → R) (old new : Stream) : Type 0 where
  pub known : KnownCame whole further old.given new.given old.come new.come
  pub front : LosesFront old.come new.come
  pub faults : new.faults ≡ old.faults

-- ---- what a reader gives

-- why a reader gave nothing: the bytes are refused, the source failed, or it is out of memory
pub data Cause (W : Type 0) : Type 0 where
  refused : W → Cause W
  failed : Cause W
  no_memory : Cause W

-- which of these causes an error is, and how a text is refused that ends too early, at an offset
pub record Errors (E W : Type 0) : Type 0 where
  pub cause : E → Cause W
  pub ended : ℕ → W

-- what a cause says of a definition's answer: a refusal is that answer, no source failed, and out of memory nothing is said
abbrev pub Allows : {Y W : Type 0} → Cause W → Result Y W → Type 0
Allows (refused why) answer = answer ≡ Err why
Allows failed answer = ⊥
Allows no_memory answer = ⊤

-- what was answered, under a view, is the definition's answer, unless it is out of memory
abbrev pub UnlessOutOfMemory : {X Y E W : Type 0} → (cause : E → Cause W) → (view : X → Y) → Result X E → Result Y W → Type 0
UnlessOutOfMemory cause view (Ok x) answer = answer ≡ Ok (view x)
UnlessOutOfMemory cause view (Err e) answer = Allows (cause e) answer

-- the source's count of faults rose where it failed, and is as before in every other case
abbrev pub CountedBy : {W : Type 0} → (before now : ℕ) → Cause W → Type 0
CountedBy before now (refused why) = now ≡ before
CountedBy before now failed = (before ≤ now) × Rose before now
CountedBy before now no_memory = now ≡ before

abbrev pub Counted : {X E W : Type 0} → (cause : E → Cause W) → (before now : ℕ) → Result X E → Type 0
Counted cause before now (Ok x) = now ≡ before
Counted cause before now (Err e) = CountedBy before now (cause e)

-- of a known text: it is refused so, or the part that the source gave ends too early, or it is out of memory
abbrev pub KnownRefusal : {Y W : Type 0} → (ended : ℕ → W) → (List ℕ → Result (Y × List ℕ) W) → (text : List ℕ) → (left : Option (List ℕ)) → Cause W → Type 0
KnownRefusal ended parse text left (refused why) = parse text ≡ Err why
KnownRefusal ended parse text left failed = StaysKnown left (λ rest. (given : List ℕ) × (at : ℕ) × (text ≡ given ++ rest) × (parse given ≡ Err (ended at)))
KnownRefusal ended parse text left no_memory = ⊤

-- of a known text: its front was read so, or an error has its cause
abbrev pub KnownReads : {X Y E W : Type 0} → Errors E W → (X → Y) → (List ℕ → Result (Y × List ℕ) W) → (before now : ℕ) → (old new left : Option (List ℕ)) → Result X E → Type 0
KnownReads errors view parse before now None new left result = ⊤
KnownReads errors view parse before now (Some text) new left (Ok x) = StaysKnown new (λ rest. Leads parse (λ other. Ok (view x, other)) before now text rest)
KnownReads errors view parse before now (Some text) new left (Err e) = KnownRefusal errors.ended parse text left (errors.cause e)

-- what a reader gives of a stream, from old to new
pub record Reads {X Y E W : Type 0} (errors : Errors E W) (view : X → Y) (parse : List ℕ → Result (Y × List ℕ) W) (old new : Stream) (result : Result X E) : Type 0 where
  -- what was read of the bytes to come is what parse says of them, whatever follows it
  pub known : KnownReads errors view parse old.given new.given old.come new.come new.left result
  -- whatever the answer, the bytes to come lost a front, and what told them goes on telling
  pub front : LosesFront old.come new.come
  -- the source's count rose where the source failed, and nowhere else
  pub faults : Counted errors.cause old.faults new.faults result

-- ---- one byte

-- the byte at the front of a text, at offset n
abbrev pub byte_at : {W : Type 0} → (ℕ → W) → ℕ → List ℕ → Result (ℕ × List ℕ) W
byte_at ended n [] = Err (ended n)
byte_at ended n (b ∷ rest) = Ok (b, rest)

-- ---- refusals said otherwise

-- the same result, with its refusal said otherwise
abbrev pub turned : {X W V : Type 0} → (W → V) → Result X W → Result X V
turned f (Ok x) = Ok x
turned f (Err why) = Err (f why)
