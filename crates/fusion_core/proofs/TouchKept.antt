-- Each step that a seat may make keeps the rule.
use Rattle.std.proofs.Common.{◌≡◌, ◌≢◌, ℕ, suc, ◌+◌, ◌*◌, ◌^◌, ◌<◌, ◌≤◌, eqb, Bool, true, false, cond, List, [], ◌∷◌, set, get_or, refl, arith, inl, inr}
use Rattle.std.specs.Prelude.{nat_lt}
use Rattle.std.proofs.lemmas.Bool.{ltb-true, ltb-false}
use mathlib.Core.Option.{some as there_is}
use lib.ListN.{get_elem?}
use Rattle.voxel_block.specs.Words.{word_of}
use Rattle.spatial_hash.specs.Table.{Table, entries_in}
use Rattle.fusion_core.specs.declared.touch.event.Touch.{Touch}
use Rattle.fusion_core.specs.declared.touch.event.Touch.TheVariants.{Seen, Place, Node, Fill, Link}
use Rattle.fusion_core.specs.TouchSeats.{SeatState}
use Rattle.fusion_core.specs.TouchWords.{counter_at, drawn, link_at}
use Rattle.fusion_core.specs.TouchRule.{TouchRuleHolds}
use Rattle.fusion_core.specs.TouchSteps.{IsNext, seen_after, saw, found, put, drawn_after, drew, past, stored, hung, draw_of, last_node}
use Rattle.fusion_core.specs.TouchMachine.{MayStep, words_after, seat_after}
use Rattle.fusion_core.specs.TouchLaws.{IsNamed, StepKeepsRule}
use Rattle.fusion_core.proofs.TouchGrowing.{walk_low}
use Rattle.fusion_core.proofs.TouchRooms.{IsOnce, once_after}
use Rattle.fusion_core.proofs.TouchMoves.{learned, looks, follows, places, draws, draws_past, stores, hangs, next_key, node_filled}

by_cond : {A : Type 0} (P : A → Type 0) (b : Bool) (x y : A) → (b ≡ true → P x) → (b ≡ false → P y) → P (cond b x y)
by_cond P true x y f g = f refl
by_cond P false x y f g = g refl

module _ (start : Table) (seats i : ℕ) (ws : List ℕ) (vs : List SeatState) (v : SeatState) (o : TouchRuleHolds start seats ws vs) (me : get_elem? vs i ≡ there_is v) (some_part : 0 < v.part) where
  -- the words and the seat after a step: the rule holds, the seat keeps its part, and its touched list stays without repeats
  pub record IsAfter (xs : List ℕ) (w : SeatState) : Type 0 where
    pub rule : TouchRuleHolds start seats xs (set vs i w)
    pub once : IsOnce v.touched → IsOnce w.touched
    pub part : w.part ≡ v.part

  saw_after : (k w : ℕ) → 0 < k → IsNext start v.seen k w → w < entries_in start → IsAfter ws (found k w (get_or ws w 0) v)
  saw_after k w some (inl next) low = record { rule = looks start seats i ws vs v o me w k some some_part next; once = λ u. once_after k w (get_or ws w 0) v.touched u; part = refl }
  saw_after k w some (inr next) low = let e : w ≡ link_at start next.0 = next.1 in absurd (omega arith)

  saw_link : (k w : ℕ) → IsNext start v.seen k w → entries_in start ≤ w → IsAfter ws (saw w (get_or ws w 0) v)
  saw_link k w (inl next) low = let l = walk_low start ws w o.walks (next_key start seats i ws vs v o me w k next) in absurd (omega arith)
  saw_link k w (inr next) low = record { rule = follows start seats i ws vs v o me w next.0 k some_part next.1 next.2; once = λ u. u; part = refl }

  pub load_after : (k w : ℕ) → 0 < k → IsNext start v.seen k w → IsAfter ws (seen_after start k w (get_or ws w 0) v)
  load_after k w some next =
      let x : ℕ = get_or ws w 0 in
      by_cond (IsAfter ws) (eqb x 0) v (cond (nat_lt w (entries_in start)) (found k w x v) (saw w x v))
      (λ z. record { rule = learned start seats i ws vs v o me v refl refl refl refl (o.each i v me); once = λ u. u; part = refl })
      (λ ne. by_cond (IsAfter ws) (nat_lt w (entries_in start)) (found k w x v) (saw w x v) (λ lt. saw_after k w some next (ltb-true w (entries_in start) lt)) (λ ge. saw_link k w next (omega (arith, ltb-false w (entries_in start) ge))))

  pub place_after : (e k : ℕ) → 0 < k → k ≤ 2 ^ 48 → IsNext start v.seen k e → e < entries_in start → get_or ws e 0 ≡ 0 → IsAfter (set ws e k) (put k e v)
  place_after e k some named (inl (inl n)) low free = record { rule = places start seats i ws vs v o me e k n.0 some named some_part n.1 n.2 n.3 free; once = λ u. once_after k e k v.touched u; part = refl }
  place_after e k some named (inl (inr n)) low free =
      let on = next_key start seats i ws vs v o me e k (inr n) in
      let a : e ≡ 4 * start.buckets + n.1 = n.2 in
      let filled = node_filled start seats i ws vs v o me e on (omega arith) in
      absurd (omega arith)
  place_after e k some named (inr n) low free = let a : e ≡ link_at start n.0 = n.1 in absurd (omega arith)

  pub draw_after : v.nodes ≡ [] → IsAfter (set ws (counter_at start) (drawn start ws + draw_of v)) (drawn_after start.nodes (drawn start ws) v)
  draw_after none =
      let xs : List ℕ = set ws (counter_at start) (drawn start ws + draw_of v) in
      let n : ℕ = drawn start ws in
      by_cond (IsAfter xs) (nat_lt n start.nodes) (drew n v) (past n v)
      (λ lt. record { rule = draws start seats i ws vs v o me some_part none (ltb-true n start.nodes lt); once = λ u. u; part = refl })
      (λ ge. record { rule = draws_past start seats i ws vs v o me some_part (omega (arith, ltb-false n start.nodes ge)); once = λ u. u; part = refl })

  pub fill_after : (a y x : ℕ) (ns : List (ℕ × ℕ)) → x ≤ 2 ^ 48 → v.nodes ≡ (a, y) ∷ ns → IsAfter (set ws (4 * start.buckets + a) x) (stored x v)
  fill_after a y x ns named is = record { rule = stores start seats i ws vs v o me a x y ns named some_part is; once = λ u. u; part = refl }

  pub link_after : (w a k : ℕ) (ns : List (ℕ × ℕ)) → 0 < k → v.nodes ≡ (a, k) ∷ ns → IsNext start v.seen k w → entries_in start ≤ w → get_or ws w 0 ≡ 0 → IsAfter (set ws w (suc a)) (hung k w a (4 * start.buckets + a) v)
  link_after w a k ns some is (inl next) low free = let l = walk_low start ws w o.walks (next_key start seats i ws vs v o me w k next) in absurd (omega arith)
  link_after w a k ns some is (inr next) low free = record { rule = hangs start seats i ws vs v o me w next.0 a k ns some some_part is next.1 next.2 free; once = λ u. once_after k (4 * start.buckets + a) k v.touched u; part = refl }

  -- ---- any step

  fill_keeps : (ns : List (ℕ × ℕ)) → v.nodes ≡ ns → ns ≢ [] → (x : ℕ) → x ≤ 2 ^ 48 → TouchRuleHolds start seats (set ws (4 * start.buckets + (last_node ns).0) x) (set vs i (stored x v))
  fill_keeps [] is some x named = absurd (some refl)
  fill_keeps (p ∷ ns) is some x named = (fill_after p.0 p.1 x ns named is).rule

  link_keeps : (ns : List (ℕ × ℕ)) → v.nodes ≡ ns → (w : ℕ) → 0 < (last_node ns).1 → IsNext start v.seen (last_node ns).1 w → entries_in start ≤ w → get_or ws w 0 ≡ 0
      → TouchRuleHolds start seats (set ws w (suc (last_node ns).0)) (set vs i (hung (last_node ns).1 w (last_node ns).0 (4 * start.buckets + (last_node ns).0) v))
  link_keeps [] is w some next low free = absurd (omega arith)
  link_keeps (p ∷ ns) is w some next low free = (link_after w p.0 p.1 ns some is next low free).rule

  pub keeps : (touch : Touch) → IsNamed touch → MayStep start ws v touch → TouchRuleHolds start seats (words_after start ws v touch) (set vs i (seat_after start ws v touch))
  keeps (Seen w k) named may = (load_after (word_of k) w (omega arith) may).rule
  keeps (Place e k) named may = (place_after e (word_of k) (omega arith) named may.0 may.1 may.2).rule
  keeps Node named may = (draw_after may).rule
  keeps (Fill k) named may = fill_keeps v.nodes refl may (word_of k) named
  keeps (Link w) named may = link_keeps v.nodes refl w may.0 may.1 may.2 may.3

pub step_keeps_rule : StepKeepsRule
step_keeps_rule start seats ws vs o i v me part touch named may = keeps start seats i ws vs v o me part touch named may
