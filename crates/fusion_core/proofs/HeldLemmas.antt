-- No cell and no dock is in two hands.
use Rattle.std.proofs.Common.{◌≡◌, ◌≢◌, ℕ, ◌+◌, ◌≤◌, length, sym, refl, arith}
use Rattle.std.specs.Prelude.{Option, Some, slice_get}
use Rattle.fusion_core.specs.declared.board.hand.Hand.{Hand}
use Rattle.fusion_core.specs.declared.board.hand.Hand.TheVariants.{Idle, Works}
use Rattle.fusion_core.specs.declared.board.job.Job.TheVariants.{Check}
use Rattle.fusion_core.specs.Jobs.{Start, job_at, names, drawn_list}
use Rattle.fusion_core.specs.BoardStates.{BoardState, works, has_drawn, holds, below, away, IsWhole}
use Rattle.fusion_core.specs.Counts.{count_of}
use Rattle.fusion_core.proofs.SumLemmas.{one_at_most, terms_le, items_le, count_of-append, count_of-take-le, same_test}
use Rattle.fusion_core.proofs.ReadyLemmas.{apart}
use Rattle.fusion_core.proofs.StepLemmas.{hand_claimed, hand_once}

hold_one : (m : BoardState) (k i : ℕ) (h : Hand) → IsWhole m → slice_get m.hands i ≡ Some h → holds m.start k h ≤ 1
hold_one m k i Idle o at = omega arith
hold_one m k i (Works j got) o at = (hand_once m i j k got o at).0

-- two hands have two jobs
two_jobs : (m : BoardState) (w v j i : ℕ) (got other : Option ℕ) → IsWhole m → w ≢ v → slice_get m.hands w ≡ Some (Works j got) → slice_get m.hands v ≡ Some (Works i other) → j ≢ i
two_jobs m w v j i got other o ne at there = λ e.
    let t = terms_le (works j) m.hands w v (Works j got) (Works i other) (λ z. ne (sym z)) at there in
    let a = same_test j j refl in let b = same_test i j (sym e) in let c = o.once j in let most : below j m.next ≤ 1 = grind arith in absurd (omega arith)

hold_two : (m : BoardState) (k w v : ℕ) (g h : Hand) → IsWhole m → w ≢ v → slice_get m.hands w ≡ Some g → slice_get m.hands v ≡ Some h → holds m.start k g + holds m.start k h ≤ 1
hold_two m k w v Idle Idle o ne at there = omega arith
hold_two m k w v Idle (Works i other) o ne at there = let a = hold_one m k v (Works i other) o there in omega arith
hold_two m k w v (Works j got) Idle o ne at there = let a = hold_one m k w (Works j got) o at in omega arith
hold_two m k w v (Works j got) (Works i other) o ne at there =
    let st : Start = m.start in let n : ℕ = length st.cells in
    let named = items_le (λ job. count_of k (names n job)) st.jobs j i (Check 0) (hand_claimed m w j got o at).2 (hand_claimed m v i other o there).2 (two_jobs m w v j i got other o ne at there) in
    let drawn = terms_le (has_drawn k) m.hands w v (Works j got) (Works i other) (λ z. ne (sym z)) at there in
    let all = o.drawn_once k in let some-free = count_of-take-le k m.cursor st.free in let a = apart st o.ready k in
    let s = count_of-append k (drawn_list got) (names n (job_at st j)) in let t = count_of-append k (drawn_list other) (names n (job_at st i)) in
    omega arith

-- no cell and no dock is in two hands
pub in_one_hand : (m : BoardState) (k : ℕ) → IsWhole m → away m k ≤ 1
in_one_hand m k o = one_at_most (holds m.start k) m.hands (λ i u e. hold_one m k i u o e) (λ i j u v ne e f. hold_two m k i j u v o ne e f)
