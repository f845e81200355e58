-- Bytes that are given piece by piece.
use Rattle.std.proofs.Common.{◌≡◌, ℕ, ◌+◌, ◌-◌, ◌≤◌, List, ◌++◌, length, take, drop, sym, ap, ◌∙◌, arith, length-take, length-drop}
use Rattle.std.proofs.lemmas.List.{take_at, take-append-drop, drop-drop}

-- n bytes that stood at an offset are the front of what is left there
pub left_after : (bytes got rest : List ℕ) (at n : ℕ) → at + n ≤ length bytes → got ≡ take ((at + n) - at) (drop at bytes) → drop at bytes ≡ take n (got ++ rest) ++ drop (at + n) bytes
left_after bytes got rest at n fits is =
    let same : (at + n) - at ≡ n = omega arith in
    let front : got ≡ take n (drop at bytes) = is ∙ ap (λ (k : ℕ). take k (drop at bytes)) same in
    let size : length got ≡ n = ap length front ∙ simp (length-take, length-drop) (omega arith) in
    rw (take_at got rest n size, front, ← drop-drop n at bytes) (sym (take-append-drop n (drop at bytes)))
