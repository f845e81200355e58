-- What a seat is after a turn, a split and a join.
use Rattle.std.proofs.Common.{◌≡◌, ℕ, ◌+◌, ◌-◌, ◌<◌, ◌≤◌, Bool, true, false, [], ◌∷◌, ◌++◌, refl, sym, ap, ◌∙◌, subst, arith}
use Rattle.std.specs.Prelude.{Option, None, Some, is_some, IsSome}
use Rattle.std.specs.Option.{option_or}
use Rattle.work_board.specs.declared.turn.Turn.{Turn}
use Rattle.work_board.specs.declared.turn.Turn.TheVariants.{Did, Empty}
use Rattle.work_board.specs.Hands.{HasTurned, mark_after}
use Rattle.work_board.specs.Seats.{IsAtRest, IsTurn}
use Rattle.work_board.specs.Steps.{Held, both, cut_left, cut_right, past, NoneTwice}

pub none_of : (o : Option ℕ) → (IsSome o → ⊥) → o ≡ None
none_of None h = refl
none_of (Some d) h = absurd (h refl)

pub turned : (part : ℕ) (marked : Bool) (m n : Held) (t : Turn) → IsAtRest part marked m → HasTurned m n t → IsAtRest part (mark_after marked t) n
turned part marked m n (Did j) a h = subst (IsAtRest part marked) (sym h.1) record {
  ready = a.ready;
  rests = (refl, refl, refl, a.rests.3);
  parts = a.parts;
  mark = a.mark;
  once = subst (λ (z : Held). NoneTwice z.0.did) h.1 h.2;
}
turned part marked m n (Empty d) a h = subst (IsAtRest part true) (sym h.1) record {
  ready = a.ready;
  rests = (refl, refl, refl, a.rests.3);
  parts = a.parts;
  mark = refl;
  once = a.once;
}

pub turn_is : (part : ℕ) (marked : Bool) (m n : Held) (t : Turn) → IsAtRest part marked m → HasTurned m n t → IsTurn m.0 n.0 t
turn_is part marked m n (Did j) a h = (h.0, none_of m.0.mark h.3, ap (λ (z : Held). z.0) h.1 ∙ (λ i. record m.0 { hand = sym a.rests.1 i; did = m.0.did ++ j ∷ [] }))
turn_is part marked m n (Empty d) a h = (h.0, ap (λ (z : Held). z.0) h.1 ∙ (λ i. record (past d m.0) { hand = sym a.rests.1 i }))

module _ (part : ℕ) (marked : Bool) (m : Held) (a : IsAtRest part marked m) (k : ℕ) (one : 1 ≤ k) (less : k < m.0.part) where
  pub left_rests : (n : Held) → n ≡ (cut_left k m.0, []) → IsAtRest (part - k) marked n
  left_rests n is = subst (IsAtRest (part - k) marked) (sym is) record {
    ready = a.ready;
    rests = (refl, a.rests.1, refl, omega arith);
    parts = ap (λ (x : ℕ). x - k) a.parts;
    mark = a.mark;
    once = a.once;
  }

  pub right_rests : (n : Held) → n ≡ (cut_right k m.0, []) → IsAtRest k marked n
  right_rests n is = subst (IsAtRest k marked) (sym is) record {
    ready = a.ready;
    rests = (refl, refl, refl, omega arith);
    parts = refl;
    mark = a.mark;
    once = λ j. omega arith;
  }

either_some : (a b : Option ℕ) (p q r : Bool) → p ≡ is_some a → q ≡ is_some b → (p ≡ true → r ≡ true) → (p ≡ false → r ≡ q) → r ≡ is_some (option_or a b)
either_some None b p q r e f first second = second e ∙ f
either_some (Some d) b p q r e f first second = first e

pub both_rest : (part other : ℕ) (marked others r : Bool) (m n k : Held) → IsAtRest part marked m → IsAtRest other others n → (marked ≡ true → r ≡ true) → (marked ≡ false → r ≡ others)
    → k ≡ (both m.0 n.0, []) → NoneTwice (m.0.did ++ n.0.did) → IsAtRest (part + other) r k
both_rest part other marked others r m n k a b first second is once = subst (IsAtRest (part + other) r) (sym is) record {
  ready = a.ready;
  rests = (refl, refl, refl, (let p = a.rests.3 in omega arith));
  parts = (λ i. a.parts i + b.parts i);
  mark = either_some m.0.mark n.0.mark marked others r a.mark b.mark first second;
  once = once;
}

-- a list has no job twice after a turn
pub once_after : (part : ℕ) (marked : Bool) (m n : Held) (t : Turn) → IsAtRest part marked m → HasTurned m n t → NoneTwice n.0.did
once_after part marked m n t a h = (turned part marked m n t a h).once
