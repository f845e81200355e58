-- What the fields of the machine tell of a seat, and what a step leaves of them.
use Rattle.std.proofs.Common.{◌≡◌, ◌≢◌, ℕ, suc, ◌+◌, ◌*◌, ◌^◌, ◌<◌, ◌≤◌, eqb, cond, List, [], ◌∷◌, length, map, set, get_or, sym, ap, ◌∙◌, subst, arith, inl, inr}
use Rattle.std.specs.Prelude.{nat_lt}
use Rattle.std.proofs.lemmas.Bool.{lt-ltb, ne_eqb, cond-true, cond-false}
use Rattle.std.proofs.lemmas.List.{map-set, length-map, length-set}
use Rattle.std.proofs.lemmas.List.Elements.{All-set, All-get_or}
use mathlib.Core.Option.{some as there_is, some-injective}
use lib.ListN.{get_elem?}
use Rattle.spatial_hash.specs.Table.{Table, entries_in, link_word}
use Rattle.fusion_core.specs.declared.touch.event.Touch.{Touch}
use Rattle.fusion_core.specs.declared.touch.size.Size.{Size}
use Rattle.fusion_core.specs.TouchCounts.{times}
use Rattle.fusion_core.specs.TouchSeats.{SeatState}
use Rattle.fusion_core.specs.TouchWords.{shown, counter_at, drawn, link_at}
use Rattle.fusion_core.specs.TouchRule.{Fits, TouchRuleHolds, placings}
use Rattle.fusion_core.specs.TouchSteps.{IsNext, seen_after, saw, found, put, drawn_after, stored, hung, draw_of}
use Rattle.fusion_core.specs.TouchMachine.{TouchState, MayStep, IsAllowed, Steps, words_after, seat_after}
use Rattle.fusion_core.specs.TouchNext.{sized, IsShort}
use Rattle.fusion_core.specs.TouchRoom.{SeatRoom, IsRoomy}
use Rattle.fusion_core.specs.TouchCoreView.{state_of, IsStateOf}
use Rattle.fusion_core.proofs.TouchSums.{at_gives, at_here, at_map, term_le}
use Rattle.fusion_core.proofs.TouchGrowing.{walk_low}
use Rattle.fusion_core.proofs.TouchReached.{seen_link}
use Rattle.fusion_core.proofs.TouchRooms.{touched_few, placed_few}
use Rattle.fusion_core.proofs.TouchMoves.{next_key, link_low, node_is, counter_fits}
use Rattle.fusion_core.proofs.TouchKept

module _ (start : Table) (size : Size) (ws : List ℕ) (rs : List SeatRoom) (m : IsStateOf start size ws rs) (i : ℕ) (r : SeatRoom) (here : get_elem? rs i ≡ there_is r) where
  abbrev vs : List SeatState
  vs = map (λ q. q.seat) rs

  abbrev v : SeatState
  v = r.seat

  pub me : get_elem? vs i ≡ there_is v
  me = at_map (λ (q : SeatRoom). q.seat) rs i r here

  pub fits : Fits start ws v
  fits = m.rule.each i v me

  pub roomy : IsRoomy start r
  roomy = (let o = at_gives rs i r r here in subst (IsRoomy start) o.1 (All-get_or (IsRoomy start) rs i r o.0 m.roomy))

  pub some_part : 0 < v.part
  some_part = (let p = roomy.part in omega arith)

  pub wide : length v.seen ≡ counter_at start + 1
  wide = fits.wide some_part ∙ m.rule.walks.wide

  -- the seat may make the step where it is allowed
  pub may : (touch : Touch) → IsAllowed (state_of start ws rs) i touch → MayStep start ws v touch
  may touch a = subst (λ u. MayStep start ws u touch) (some-injective a.0 v (sym a.1 ∙ me)) a.2

  -- ---- the search for the next word

  pub short : (k : ℕ) → IsShort start v.seen k
  short k ns j p =
      let o = seen_link start ws v.seen m.rule.sound m.rule.walks fits.seen k ns j p in (
        o.0,
        λ some. (
            let kn : link_word (shown start ws) j ≡ link_word (shown start v.seen) j = (let l = o.0 in fits.seen (link_at start j) (omega arith) some) in
            let low : link_word (shown start ws) j ≤ start.nodes = m.rule.walks.low j o.0 in
            (omega arith, o.1 (λ z. (let z2 : link_word (shown start v.seen) j ≡ 0 = sym kn ∙ z in absurd (omega arith))))),
      )

  -- ---- what a step leaves

  -- the words and the seat after a step
  abbrev pub IsAfter : List ℕ → SeatState → Type 0
  IsAfter xs w = TouchKept.IsAfter start (length vs) i ws vs v m.rule me some_part xs w

  set_me : (xs : List ℕ) (w : SeatState) → IsAfter xs w → get_elem? (set vs i w) i ≡ there_is w
  set_me xs w a = at_here vs i w (at_gives vs i v v me).0

  -- the seat has room for what it touched and placed
  pub rooms : (xs : List ℕ) (w : SeatState) → IsAfter xs w → (length w.touched ≤ r.room) × (length w.placed ≤ r.room)
  rooms xs w a =
      let f : Fits start xs w = a.rule.each i w (set_me xs w a) in
      let t : length w.touched ≤ entries_in start = touched_few start xs w f (a.once roomy.once) in
      let p : length w.placed ≤ length w.touched = placed_few start xs w f
      (λ x. (let l : times x w.placed ≤ placings (set vs i w) x = term_le (λ u. times x u.placed) (set vs i w) i w (set_me xs w a) in let o : placings (set vs i w) x ≤ 1 = a.rule.origin.once x in omega arith)) in
      let o = roomy.room in
      (omega arith, omega arith)

  kept : (xs : List ℕ) (w : SeatState) → IsAfter xs w → IsStateOf start size xs (set rs i (record r { seat = w }))
  kept xs w a =
      let q : SeatRoom = record r { seat = w } in
      let same : map (λ (z : SeatRoom). z.seat) (set rs i q) ≡ set vs i w = map-set (λ (z : SeatRoom). z.seat) rs i q in
      let many : length vs ≡ length (map (λ (z : SeatRoom). z.seat) (set rs i q)) = sym (ap length same ∙ length-set vs i w) in
      let P : List SeatState → Type 0 = λ us. TouchRuleHolds start (length (map (λ (z : SeatRoom). z.seat) (set rs i q))) xs us in
      let Q : ℕ → Type 0 = λ n. TouchRuleHolds start n xs (set vs i w) in
      record {
        buckets = m.buckets;
        nodes = m.nodes;
        rule = subst P (sym same) (subst Q many a.rule);
        roomy = All-set (IsRoomy start) rs i q record { part = a.part ∙ roomy.part; room = roomy.room; once = a.once roomy.once } m.roomy;
      }

  -- the fields are sound after the step, and the seat made it
  pub finish : (touch : Touch) → IsAfter (words_after start ws v touch) (seat_after start ws v touch) → (xs : List ℕ) (q : SeatRoom) → xs ≡ words_after start ws v touch → q ≡ record r { seat = seat_after start ws v touch }
      → IsStateOf start size xs (set rs i q) × Steps (state_of start ws rs) i touch (state_of start xs (set rs i q))
  finish touch a xs q isx isq =
      let w : SeatState = seat_after start ws v touch in
      let p : SeatRoom = record r { seat = seat_after start ws v touch } in
      let ys : List ℕ = words_after start ws v touch in
      let same : map (λ (z : SeatRoom). z.seat) (set rs i p) ≡ set vs i w = map-set (λ (z : SeatRoom). z.seat) rs i p in
      let P : List ℕ → SeatRoom → Type 0 = λ us z. IsStateOf start size us (set rs i z) × Steps (state_of start ws rs) i touch (state_of start us (set rs i z)) in
      let S : List SeatState → TouchState = λ us. record { start = start; words = ys; seats = us } in
      let one : P ys p = (kept ys w a, (v, me, ap S same)) in
      subst (λ us. P us q) (sym isx) (subst (λ z. P ys z) (sym isq) one)

  -- ---- the steps

  -- a word that is next is one of the table's
  pub next_low : (k w : ℕ) → IsNext start v.seen k w → w < counter_at start
  next_low k w (inl next) = let l = walk_low start ws w m.rule.walks (next_key start (length vs) i ws vs v m.rule me w k next) in omega arith
  next_low k w (inr next) = let l = link_low start (length vs) i ws vs v m.rule me next.0 k next.2 in let e : w ≡ link_at start next.0 = next.1 in omega arith

  pub load_after : (k w : ℕ) → 0 < k → IsNext start v.seen k w → IsAfter ws (seen_after start k w (get_or ws w 0) v)
  load_after k w some next = TouchKept.load_after start (length vs) i ws vs v m.rule me some_part k w some next

  pub place_after : (e k : ℕ) → 0 < k → k ≤ 2 ^ 48 → IsNext start v.seen k e → e < entries_in start → get_or ws e 0 ≡ 0 → IsAfter (set ws e k) (put k e v)
  place_after e k some named next low free = TouchKept.place_after start (length vs) i ws vs v m.rule me some_part e k some named next low free

  pub draw_after : v.nodes ≡ [] → IsAfter (set ws (counter_at start) (drawn start ws + draw_of v)) (drawn_after start.nodes (drawn start ws) v)
  draw_after none = TouchKept.draw_after start (length vs) i ws vs v m.rule me some_part none

  pub fill_after : (a y x : ℕ) (ns : List (ℕ × ℕ)) → x ≤ 2 ^ 48 → v.nodes ≡ (a, y) ∷ ns → IsAfter (set ws (4 * start.buckets + a) x) (stored x v)
  fill_after a y x ns named is = TouchKept.fill_after start (length vs) i ws vs v m.rule me some_part a y x ns named is

  pub link_after : (w a k : ℕ) (ns : List (ℕ × ℕ)) → 0 < k → v.nodes ≡ (a, k) ∷ ns → IsNext start v.seen k w → entries_in start ≤ w → get_or ws w 0 ≡ 0 → IsAfter (set ws w (suc a)) (hung k w a (4 * start.buckets + a) v)
  link_after w a k ns some is next low free = TouchKept.link_after start (length vs) i ws vs v m.rule me some_part w a k ns some is next low free

  -- an unlinked node is one of the table's
  pub node_low : (a y : ℕ) (ns : List (ℕ × ℕ)) → v.nodes ≡ (a, y) ∷ ns → a < start.nodes
  node_low a y ns is = (node_is start (length vs) i ws vs v m.rule me a y ns is).0

  -- the counter is far from its type's end
  pub drawn_low : drawn start ws ≤ 1000064
  drawn_low = (let c = counter_fits start (length vs) i ws vs v m.rule me in let n : start.nodes ≤ 1000000 = m.rule.sound.few_nodes in let f : length vs ≤ 64 = m.rule.few in omega arith)

-- a seat that may make a step is there
pub seat_low : (start : Table) (ws : List ℕ) (rs : List SeatRoom) (i : ℕ) (touch : Touch) → IsAllowed (state_of start ws rs) i touch → i < length rs
seat_low start ws rs i touch a =
    let l : i < length (map (λ (q : SeatRoom). q.seat) rs) = (at_gives (map (λ q. q.seat) rs) i a.0 a.0 a.1).0 in
    let same : length (map (λ (q : SeatRoom). q.seat) rs) ≡ length rs = length-map rs (λ q. q.seat) in
    omega arith

pub load_size : (start : Table) (size : Size) (k w r : ℕ) (v : SeatState) → size.buckets ≡ start.buckets → size.nodes ≡ start.nodes → seen_after (sized size.buckets size.nodes) k w r v ≡ seen_after start k w r v
load_size start size k w r v b n =
    let same : 4 * size.buckets + size.nodes ≡ 4 * start.buckets + start.nodes = omega arith in
    ap (λ (e : ℕ). cond (eqb r 0) v (cond (nat_lt w e) (found k w r v) (saw w r v))) same

-- what a load touches, where the word is not 0 and a key word
pub load_touched : (start : Table) (size : Size) (k w r : ℕ) (v : SeatState) → r ≢ 0 → w < 4 * size.buckets + size.nodes → (seen_after (sized size.buckets size.nodes) k w r v).touched ≡ (found k w r v).touched
load_touched start size k w r v ne lt =
    ap (λ (u : SeatState). u.touched)
    (cond-false (eqb r 0) v (cond (nat_lt w (4 * size.buckets + size.nodes)) (found k w r v) (saw w r v)) (ne_eqb r 0 ne) ∙ cond-true (nat_lt w (4 * size.buckets + size.nodes)) (found k w r v) (saw w r v) (lt-ltb w (4 * size.buckets + size.nodes) lt))
