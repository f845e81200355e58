-- Bytes that are given and taken piece by piece.
use Rattle.std.proofs.Common.{◌≡◌, ℕ, ◌+◌, ◌-◌, ◌≤◌, List, ◌++◌, Option, None, Some, length, take, drop, refl, sym, ap, ◌∙◌, append_assoc, arith, length-take, length-drop}
use Rattle.std.proofs.lemmas.List.{take_at, take-append-drop, drop-drop, drop-take, take_rest}
use Rattle.std.proofs.Math.Seq.{take-add}
use Rattle.std.specs.Io.KnownBytes.{Appends}

-- n bytes that stood at a place are the front of what is left there
pub left_after : (bytes got rest : List ℕ) (at n : ℕ) → at + n ≤ length bytes → got ≡ take ((at + n) - at) (drop at bytes) → drop at bytes ≡ take n (got ++ rest) ++ drop (at + n) bytes
left_after bytes got rest at n fits is =
    let same : (at + n) - at ≡ n = omega arith in
    let front : got ≡ take n (drop at bytes) = is ∙ ap (λ (k : ℕ). take k (drop at bytes)) same in
    let size : length got ≡ n = ap length front ∙ simp (length-take, length-drop) (omega arith) in
    rw (take_at got rest n size, front, ← drop-drop n at bytes) (sym (take-append-drop n (drop at bytes)))

-- what a buffer keeps from a place up to an end, without its first n bytes
pub kept_after : (bytes : List ℕ) (at end n : ℕ) → n ≤ end - at → take (end - (at + n)) (drop (at + n) bytes) ≡ drop n (take (end - at) (drop at bytes))
kept_after bytes at end n fits =
    let size : end - at ≡ n + (end - (at + n)) = omega arith in
    rw (size, drop-take n (end - (at + n)) (drop at bytes), drop-drop n at bytes) refl

-- one piece after another
pub appends_more : (a b c : Option (List ℕ)) (bytes : List ℕ) (done n : ℕ) → Appends a b (take done bytes) → Appends b c (take n (take (length bytes - done) (drop done bytes))) → Appends a c (take (done + n) bytes)
appends_more None b c bytes done n first more = tt
appends_more (Some xs) None c bytes done n first more = absurd first
appends_more (Some xs) (Some ys) None bytes done n first more = absurd more
appends_more (Some xs) (Some ys) (Some zs) bytes done n first more =
    (rw (take_rest bytes done) at more) ∙ ap (λ (l : List ℕ). l ++ take n (drop done bytes)) first ∙ append_assoc xs (take done bytes) (take n (drop done bytes)) ∙ ap (λ (l : List ℕ). xs ++ l) (sym (take-add done n bytes))
