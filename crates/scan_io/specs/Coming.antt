-- The bytes to come from a feed, and what a feed gives of them.
use Rattle.std.specs.Prelude.{◌≡◌, ℕ, ◌+◌, ◌-◌, ◌^◌, ⊤, min, List, [], ◌∷◌, Option, None, Some, is_some, Result, Ok, Err}
use Rattle.std.specs.Io.KnownBytes.{Appends, Consumes, Keeps, IsAtEnd, prepend_known}
use Rattle.scan_io.specs.declared.fault.Failed.{Failed}

-- what tells its bytes goes on telling them, and what tells nothing goes on telling nothing
abbrev pub SameTelling : Option (List ℕ) → Option (List ℕ) → Type 0
SameTelling old new = is_some new ≡ is_some old

-- what is told loses some bytes at its front
pub record LosesFront (old new : Option (List ℕ)) : Type 0 where
  pub telling : SameTelling old new
  pub front : List ℕ
  pub lost : Consumes old new front

-- what is told gains some bytes at its end
pub record Grows (old new : Option (List ℕ)) : Type 0 where
  pub telling : SameTelling old new
  pub more : List ℕ
  pub gained : Appends old new more

-- what contracts see of a feed: the bytes that it keeps, and the number of bytes that it gave
pub record Kept : Type 0 where
  pub bytes : List ℕ
  pub given : ℕ

-- the bytes to come: those that the feed keeps, and then those that the source has left, where it tells them
abbrev pub to_come : Kept → Option (List ℕ) → Option (List ℕ)
to_come feed left = prepend_known feed.bytes left

-- one call of a feed: the first byte to come, nothing at the end of input, nothing where the source failed
abbrev pub Gives : Option (List ℕ) → Option (List ℕ) → Result (Option ℕ) Failed → Type 0
Gives old new (Ok (Some byte)) = Consumes old new (byte ∷ [])
Gives old new (Ok None) = IsAtEnd old × Keeps old new
Gives old new (Err failed) = Keeps old new

-- a feed that keeps bytes gives the first of them
abbrev pub GivesKept : List ℕ → List ℕ → Result (Option ℕ) Failed → Type 0
GivesKept [] now result = ⊤
GivesKept (byte ∷ rest) now result = (result ≡ Ok (Some byte)) × (now ≡ rest)

-- after a call that gave no byte the feed keeps none
abbrev pub KeepsNone : List ℕ → Result (Option ℕ) Failed → Type 0
KeepsNone kept (Ok (Some byte)) = ⊤
KeepsNone kept (Ok None) = kept ≡ []
KeepsNone kept (Err failed) = kept ≡ []

-- the number of bytes given after a call; it saturates at its greatest value
abbrev pub given_after : ℕ → Result (Option ℕ) Failed → ℕ
given_after given (Ok (Some byte)) = min (given + 1) (2 ^ 64 - 1)
given_after given (Ok None) = given
given_after given (Err failed) = given
