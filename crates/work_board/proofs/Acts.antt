-- Several slots taken, or given back, in one step.
use Rattle.std.proofs.Common.{◌≡◌, ℕ, ◌<◌, ◌≤◌, List, [], ◌∷◌, length, set, sym, refl, ap, arith, subst, ◌∙◌, ⊎_elim, inl, inr, ◌⊎◌, length-set, get_or-set_same, get_or-set_other}
use mathlib.Core.Logic.{dite}
use mathlib.Core.Option.{Option as Maybe, none, some}
use native.Mathlib.Decide.{ℕ_discrete}
use lib.ListN.{get_elem?}
use Rattle.atomic_table.specs.Table.{Act, keeps, takes, gives, chain, Valid, carried_after, homes_after}
use Rattle.atomic_table.proofs.Lists.{set_here, set_else}
use Rattle.fusion_core.specs.declared.board.slot.Slot.{Slot}
use Rattle.fusion_core.specs.Jobs.{Start, slot_at, first_at}
use Rattle.fusion_core.specs.BoardStates.{put}
use Rattle.fusion_core.specs.Counts.{count_of}
use Rattle.fusion_core.proofs.SumLemmas.{count_of-cons, same_test, no_test}
use Rattle.fusion_core.proofs.SlotLemmas.{keys}
use Rattle.work_board.specs.Steps.{firsts}

abbrev pub take_all : List (ℕ × Slot) → Act Slot
take_all [] = keeps
take_all (p ∷ ps) = chain (take_all ps) (takes p.0 p.1)

abbrev pub give_all : List (ℕ × Slot) → Act Slot
give_all [] = keeps
give_all (p ∷ ps) = chain gives (give_all ps)

abbrev pub AtHome : List (Maybe Slot) → List (ℕ × Slot) → Type 0
AtHome hs [] = Unit {0}
AtHome hs (p ∷ ps) = (get_elem? hs p.0 ≡ some (some p.1)) × AtHome hs ps

pub carried-take : (ps : List (ℕ × Slot)) → carried_after [] (take_all ps) ≡ ps
carried-take [] = refl
carried-take (p ∷ ps) = ap (λ (l : List (ℕ × Slot)). p ∷ l) (carried-take ps)

pub length-take_all : (hs : List (Maybe Slot)) (ps : List (ℕ × Slot)) → length (homes_after hs [] (take_all ps)) ≡ length hs
length-take_all hs [] = refl
length-take_all hs (p ∷ ps) = length-set (homes_after hs [] (take_all ps)) p.0 none ∙ length-take_all hs ps

pub else-take : (hs : List (Maybe Slot)) (ps : List (ℕ × Slot)) (k : ℕ) → count_of k (keys ps) ≡ 0 → get_elem? (homes_after hs [] (take_all ps)) k ≡ get_elem? hs k
else-take hs [] k h = refl
else-take hs (p ∷ ps) k h = set_else (homes_after hs [] (take_all ps)) p.0 k none (λ e. absurd (let t = same_test p.0 k (sym e) in let c = count_of-cons k p.0 (keys ps) in omega arith)) ∙ else-take hs ps k (let c = count_of-cons k p.0 (keys ps) in omega arith)

pub valid-take : (hs : List (Maybe Slot)) (ps : List (ℕ × Slot)) → ((k : ℕ) → count_of k (keys ps) ≤ 1) → AtHome hs ps → Valid hs [] (take_all ps)
valid-take hs [] once h = tt
valid-take hs (p ∷ ps) once h = (
  valid-take hs ps (λ k. let o = once k in let c = count_of-cons k p.0 (keys ps) in omega arith) h.1,
  else-take hs ps p.0 (let o = once p.0 in let t = same_test p.0 p.0 refl in let c = count_of-cons p.0 p.0 (keys ps) in omega arith) ∙ h.0,
)

pub carried-give : (ps : List (ℕ × Slot)) → carried_after ps (give_all ps) ≡ []
carried-give [] = refl
carried-give (p ∷ ps) = carried-give ps

pub valid-give : (hs : List (Maybe Slot)) (ps : List (ℕ × Slot)) → Valid hs ps (give_all ps)
valid-give hs [] = tt
valid-give hs (p ∷ ps) = (tt, valid-give (set hs p.0 (some p.1)) ps)

pub length-give : (hs : List (Maybe Slot)) (ps : List (ℕ × Slot)) → length (homes_after hs ps (give_all ps)) ≡ length hs
length-give hs [] = refl
length-give hs (p ∷ ps) = length-give (set hs p.0 (some p.1)) ps ∙ length-set hs p.0 (some p.1)

-- what was at home, or is given back, is at home as it was put
pub given_home : (hs : List (Maybe Slot)) (slots : List Slot) (ps : List (ℕ × Slot)) (k : ℕ)
    → (get_elem? hs k ≡ some (some (slot_at slots k))) ⊎ (0 < count_of k (keys ps)) → k < length hs → k < length slots
    → get_elem? (homes_after hs ps (give_all ps)) k ≡ some (some (slot_at (put slots ps) k))
given_home hs slots [] k at lt lt' = ⊎_elim (λ e. e) (λ h. absurd (omega arith)) at
given_home hs slots (p ∷ ps) k at lt lt' =
    let hs' : List (Maybe Slot) = set hs p.0 (some p.1) in let slots' : List Slot = set slots p.0 p.1 in
    let near : k < length hs' = subst (λ (n : ℕ). k < n) (sym (length-set hs p.0 (some p.1))) lt in
    let near' : k < length slots' = subst (λ (n : ℕ). k < n) (sym (length-set slots p.0 p.1)) lt' in
    given_home hs' slots' ps k
    (dite (ℕ_discrete k p.0)
    (λ e. inl (ap (get_elem? hs') e ∙ set_here hs p.0 (some p.1) (subst (λ (n : ℕ). n < length hs) e lt) ∙ ap (λ (x : Slot). some (some x)) (sym (ap (slot_at slots') e ∙ get_or-set_same slots p.0 p.1 _ (subst (λ (n : ℕ). n < length slots) e lt')))))
    (λ ne. ⊎_elim
    (λ was. inl (set_else hs p.0 k (some p.1) ne ∙ was ∙ ap (λ (x : Slot). some (some x)) (sym (get_or-set_other slots p.0 k p.1 _ ne))))
    (λ h. inr (let z = no_test p.0 k (λ e. ne (sym e)) in let c = count_of-cons k p.0 (keys ps) in omega arith)) at)) near near'

pub keys-firsts : (st : Start) (ks : List ℕ) → keys (firsts st ks) ≡ ks
keys-firsts st [] = refl
keys-firsts st (k ∷ ks) = ap (λ (l : List ℕ). k ∷ l) (keys-firsts st ks)

pub home-firsts : (st : Start) (hs : List (Maybe Slot)) (ks : List ℕ) → ((k : ℕ) → 0 < count_of k ks → get_elem? hs k ≡ some (some (first_at st k))) → AtHome hs (firsts st ks)
home-firsts st hs [] h = tt
home-firsts st hs (k ∷ ks) h = (h k (let t = same_test k k refl in let c = count_of-cons k k ks in omega arith), home-firsts st hs ks (λ i more. h i (let c = count_of-cons i k ks in omega arith)))
