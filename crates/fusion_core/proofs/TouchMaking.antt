-- The machine at the start.
use Rattle.std.proofs.Common.{◌≡◌, ℕ, ◌+◌, ◌*◌, ◌<◌, ◌≤◌, List, [], ◌∷◌, ◌++◌, length, map, replicate, get_or, sym, ap, ◌∙◌, subst, arith, length-append}
use Rattle.std.proofs.lemmas.List.{ext_get_or, length-map, length-replicate, get_or-replicate, get_or-map}
use Rattle.std.proofs.lemmas.List.Elements.{All-get_or, All-from_get_or}
use Rattle.spatial_hash.specs.Table.{Table, entries_in}
use Rattle.spatial_hash.specs.Sound.{IsSound}
use Rattle.fusion_core.specs.declared.touch.size.Size.{Size}
use Rattle.fusion_core.specs.TouchCounts.{firsts}
use Rattle.fusion_core.specs.TouchSeats.{SeatState, fresh_seat}
use Rattle.fusion_core.specs.TouchRule.{TouchRuleHolds}
use Rattle.fusion_core.specs.TouchMachine.{TouchState, RuleHolds, touch_start}
use Rattle.fusion_core.specs.TouchNext.{sized}
use Rattle.fusion_core.specs.TouchRoom.{SeatRoom, IsRoomy, AreFresh}
use Rattle.fusion_core.specs.TouchCoreView.{state_of, IsStateOf}
use Rattle.fusion_core.proofs.TouchOpening.{opens}

fresh_list : (n words entries : ℕ) (rs : List SeatRoom) → AreFresh n words entries rs → map (λ r. r.seat) rs ≡ replicate n (fresh_seat words 1)
fresh_list n words entries rs f =
    let x : SeatState = fresh_seat words 1 in
    let l : List SeatState = map (λ r. r.seat) rs in
    let many : length l ≡ n = length-map rs (λ r. r.seat) ∙ f.long in
    let same : length l ≡ length (replicate n x) = many ∙ sym (length-replicate n x) in
    ext_get_or x l (replicate n x) same (λ i lt. (
    let low : i < length rs = (let m : length l ≡ length rs = length-map rs (λ r. r.seat) in omega arith) in
    let d : SeatRoom = record { seat = x; room = 0 } in
    let here = All-get_or (λ r. (r.seat ≡ x) × (entries ≤ r.room)) rs i d low f.each in
    get_or-map (λ (r : SeatRoom). r.seat) rs i d x low ∙ here.0 ∙ sym (get_or-replicate n i x x (omega arith))))

module _ (t : Table) (sound : IsSound t) (n : ℕ) (few : n ≤ 64) (size : Size) (b : size.buckets ≡ t.buckets) (c : size.nodes ≡ t.nodes) (ws : List ℕ) (isw : ws ≡ t.words ++ t.linked ∷ []) (rs : List SeatRoom) (fresh : AreFresh n (length ws) (entries_in (sized size.buckets size.nodes)) rs) where
  long : length ws ≡ length t.words + 1
  long = ap length isw ∙ length-append t.words (t.linked ∷ [])

  seats_are : map (λ r. r.seat) rs ≡ replicate n (fresh_seat (length t.words + 1) 1)
  seats_are = fresh_list n (length ws) (entries_in (sized size.buckets size.nodes)) rs fresh ∙ ap (λ (k : ℕ). replicate n (fresh_seat k 1)) long

  pub started : state_of t ws rs ≡ touch_start t n
  started =
      let S : List ℕ → List SeatState → TouchState = λ xs us. record { start = t; words = xs; seats = us } in
      ap (λ xs. S xs (map (λ r. r.seat) rs)) isw ∙ ap (S (t.words ++ t.linked ∷ [])) seats_are

  pub rule_starts : RuleHolds (touch_start t n)
  rule_starts =
      let us : List SeatState = replicate n (fresh_seat (length t.words + 1) 1) in
      subst (λ (k : ℕ). TouchRuleHolds t k (t.words ++ t.linked ∷ []) us) (sym (length-replicate n (fresh_seat (length t.words + 1) 1))) (opens t sound n few)

  none_twice : (r : SeatRoom) → r.seat ≡ fresh_seat (length ws) 1 → (x : ℕ) → firsts x r.seat.touched ≤ 1
  none_twice r is x = (let z : firsts x r.seat.touched ≡ 0 = ap (λ (u : SeatState). firsts x u.touched) is in omega arith)

  pub makes : IsStateOf t size ws rs
  makes = record {
    buckets = b;
    nodes = c;
    rule = subst RuleHolds (sym started) rule_starts;
    roomy = All-from_get_or (IsRoomy t) rs record { seat = fresh_seat 0 1; room = 0 } (λ i lt. (
        let d : SeatRoom = record { seat = fresh_seat 0 1; room = 0 } in
        let r : SeatRoom = get_or rs i d in
        let here = All-get_or (λ r. (r.seat ≡ fresh_seat (length ws) 1) × (entries_in (sized size.buckets size.nodes) ≤ r.room)) rs i d lt fresh.each in
        let room : 4 * size.buckets + size.nodes ≤ (get_or rs i d).room = here.1 in
        let e : 4 * size.buckets + size.nodes ≡ 4 * t.buckets + t.nodes = omega arith in
        record { part = ap (λ (u : SeatState). u.part) here.0; room = omega arith; once = none_twice (get_or rs i d) here.0 }));
  }
