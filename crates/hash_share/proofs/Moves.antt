-- Each step keeps the rule of a share, and tells what it is said to tell.
use Rattle.std.proofs.Common.{length, ◌≡◌, ◌≢◌, ℕ, zero, suc, ◌+◌, ◌*◌, ◌%◌, ◌^◌, ◌<◌, ◌≤◌, eqb, cond, List, [], ◌∷◌, ◌++◌, map, set, get_or, refl, sym, ap, ◌∙◌, arith, inl, inr, subst, ⊎_elim}
use Rattle.std.specs.Prelude.{sum_by}
use Rattle.std.proofs.lemmas.Bool.{cases_eq}
use Rattle.std.proofs.lemmas.List.{set-get_or, map-set, map-append, get_or-set_same, length-set}
use mathlib.Core.Logic.{dite}
use mathlib.Core.Option.{none, some as there_is, some-injective, some-ne-none}
use native.Mathlib.Decide.{ℕ_discrete, dec_le}
use native.Mathlib.Nat.{mod-eq_of_lt}
use lib.ListN.{get_elem?}
use prog.Atomic.{either}
use Rattle.atomic_table.specs.Table.{State, step, Act, keeps, Valid, carried_after, stepped, Allows, Splits, Joins, opening}
use Rattle.atomic_table.proofs.Lists.{at_snoc, exchanged}
use Rattle.spatial_hash.specs.Hash.{home}
use Rattle.spatial_hash.specs.Table.{Table, entries_in, link_word}
use Rattle.spatial_hash.specs.Sound.{IsSound}
use Rattle.hash_share.specs.declared.view.View.{View}
use Rattle.fusion_core.specs.TouchSeats.{SeatState}
use Rattle.fusion_core.specs.TouchWords.{shown, counter_at, drawn, link_at, IsOnWalk, Passes}
use Rattle.fusion_core.specs.TouchSteps.{IsNextKey, IsNextLink, touched_after, draw_of}
use Rattle.fusion_core.specs.TouchCounts.{pairs_at}
use Rattle.fusion_core.proofs.TouchPairs.{holds_here}
use Rattle.fusion_core.specs.TouchLaws.{IsAbsent}
use Rattle.fusion_core.specs.TouchRule.{IsWalked, Fits, TouchRuleHolds}
use Rattle.fusion_core.proofs.TouchSums.{at_set, at_map, term_le}
use Rattle.fusion_core.proofs.TouchGrowing.{walk_low}
use Rattle.fusion_core.proofs.TouchSeeing.{Known}
use Rattle.fusion_core.proofs.TouchReached.{seen_link}
use Rattle.fusion_core.proofs.TouchAbsence.{walk_end_tells}
use Rattle.fusion_core.proofs.TouchMoves as move
use Rattle.hash_share.specs.Rule.{seat_in, IsShared, Touches}
use Rattle.hash_share.specs.Steps.{Held, saw, found, put, drew, past, stored, hung, LeadsOn, IsKept, HasPair, IsFresh, cut_left, cut_right, both, gone, first_view, looked, followed, tried, drawing, storing, hanging, weighed}
use Rattle.hash_share.proofs.Entries.{pair_after}
use Rattle.hash_share.proofs.Parts.{rule_cut, rule_joined, opens_one}

-- a link that leads to a node does not stand behind as many nodes as there are
leads_on : (start : Table) (ws us : List ℕ) → IsSound start → IsWalked start ws → Known start ws us → (k j w : ℕ) → w ≡ link_at start j → j < start.buckets + start.nodes → get_or ws w 0 ≢ 0 → LeadsOn start us k w (get_or ws w 0)
leads_on start ws us s w known k j at is low ne =
    let word : link_word (shown start ws) j ≡ get_or ws at 0 = ap (λ (b : ℕ). get_or ws b 0) (sym is) in
    let le : link_word (shown start ws) j ≤ start.nodes = w.low j low in (
      omega arith,
      λ ns i e sees. (seen_link start ws us s w known k ns i sees).1 (λ z. ne (ap (λ (b : ℕ). get_or ws b 0) e ∙ z)),
    )

module _ (start : Table) (seats id : ℕ) (s : State ℕ View) (v : View) (o : Touches start seats s) (me : get_elem? s.views id ≡ there_is v) where
  abbrev vs : List SeatState
  vs = map seat_in s.views

  at : get_elem? vs id ≡ there_is (seat_in v)
  at = at_map seat_in s.views id v me

  fits : Fits start s.words (seat_in v)
  fits = o.rule.each id (seat_in v) at

  -- the seat has its new view
  after : (xs : List ℕ) (w : View) → w.start ≡ v.start → w.part ≡ v.part → TouchRuleHolds start seats xs (set vs id (seat_in w)) → IsShared start seats xs (set s.views id w)
  after xs w st part rule = record {
    rule = subst (TouchRuleHolds start seats xs) (sym (map-set seat_in s.views id w)) rule;
    begun = λ i u e p. ⊎_elim
        (λ t. subst (λ (z : View). 0 < z.part → z.start ≡ start) t.1 (λ q. st ∙ o.begun id v me (subst (λ (x : ℕ). 0 < x) part q)) p)
        (λ t. o.begun i u t.1 p) (at_set s.views id i w u e);
  }

  -- the word that was read is written again
  again : (e : ℕ) (w : View) → w.start ≡ v.start → w.part ≡ v.part → TouchRuleHolds start seats s.words (set vs id (seat_in w)) → IsShared start seats (set s.words e (get_or s.words e 0)) (set s.views id w)
  again e w st part rule = subst (λ (xs : List ℕ). IsShared start seats xs (set s.views id w)) (sym (set-get_or s.words e 0)) (after s.words w st part rule)

  -- the seat stays as it is
  same : TouchRuleHolds start seats s.words (set vs id (seat_in v))
  same = move.learned start seats id s.words vs (seat_in v) o.rule at (seat_in v) refl refl refl refl fits

  -- key word e was seen to be k: the touched list has this pair
  found_pair : (e k x : ℕ) → TouchRuleHolds start seats s.words (set vs id (seat_in (found k e x v))) → e < entries_in start → e < length v.seen → x ≡ k → HasPair k e (found k e x v)
  found_pair e k x rule low inside same =
      let is : (found k e x v).touched ≡ touched_after k e k v.touched = ap (λ (r : ℕ). touched_after k e r v.touched) same in
      pair_after start seats id s.words vs (seat_in v) (seat_in (found k e x v)) rule at k e v.touched is low (get_or-set_same v.seen e x 0 inside ∙ same)

-- ---- a load of a key word

pub looks : (start : Table) (seats n id : ℕ) (m : Held) (e k : ℕ) → 0 < k → 0 < m.0.part → IsNextKey m.0.start m.0.seen k e → Allows (Touches start seats) n id m e (λ y. y) (looked k (step n e 0 0 none) m)
looks start seats n id m e k some part ahead s o slots me _ =
    let v : View = m.0 in
    let us : List SeatState = map seat_in s.views in
    let x : ℕ = get_or s.words e 0 in
    let f : Fits start s.words (seat_in v) = fits start seats id s v o me in
    let st : v.start ≡ start = o.begun id v me part in
    let a = at start seats id s v o me in
    let next : IsNextKey start v.seen k e = subst (λ (t : Table). IsNextKey t v.seen k e) st ahead in
    let on : IsOnWalk (shown start s.words) e = move.next_key start seats id s.words (map seat_in s.views) (seat_in v) o.rule a e k next in
    let low : e < entries_in start = walk_low start s.words e o.rule.walks on in
    let kept : IsKept v.seen e x = f.seen e (omega arith) in
    let full : 4 * v.start.buckets ≤ e → 0 < x = λ le. move.node_filled start seats id s.words (map seat_in s.views) (seat_in v) o.rule a e on (subst (λ (t : Table). 4 * t.buckets ≤ e) st le) in
    dite (ℕ_discrete x 0)
    (λ zero_there. (
      v,
      keeps,
      tt,
      again start seats id s v o me e v refl refl (same start seats id s v o me),
      ((λ _. refl), (λ more. absurd (omega arith)), full, kept, (λ q. absurd (omega arith))),
    ))
    (λ ne.
    let rule : TouchRuleHolds start seats s.words (set us id (seat_in (found k e x v))) = move.looks start seats id s.words us (seat_in v) o.rule a e k some part next in
    let inside : e < length v.seen = (let p = f.wide part in let q = o.rule.walks.wide in omega arith) in (
      found k e x v,
      keeps,
      tt,
      again start seats id s v o me e (found k e x v) refl refl rule,
      ((λ is. absurd (ne is)), (λ _. refl), full, kept, (λ same. found_pair start seats id s v o me e k x rule low inside same)),
    ))

-- ---- a load of a link word

pub follows : (start : Table) (seats n id : ℕ) (m : Held) (w j k : ℕ) → 0 < k → 0 < m.0.part → w ≡ link_at m.0.start j → IsNextLink m.0.start m.0.seen k j → Allows (Touches start seats) n id m w (λ y. y) (followed k (step n w 0 0 none) m)
follows start seats n id m w j k some part is reached s o slots me _ =
    let v : View = m.0 in
    let us : List SeatState = map seat_in s.views in
    let x : ℕ = get_or s.words w 0 in
    let f : Fits start s.words (seat_in v) = fits start seats id s v o me in
    let st : v.start ≡ start = o.begun id v me part in
    let a = at start seats id s v o me in
    let here : w ≡ link_at start j = is ∙ ap (λ (t : Table). link_at t j) st in
    let r : IsNextLink start v.seen k j = subst (λ (t : Table). IsNextLink t v.seen k j) st reached in
    let word : link_word (shown start s.words) j ≡ x = ap (λ (b : ℕ). get_or s.words b 0) (sym here) in
    let low : j < start.buckets + start.nodes = move.link_low start seats id s.words us (seat_in v) o.rule a j k r in
    let kept : IsKept v.seen w x = f.seen w (omega arith) in
    dite (ℕ_discrete x 0)
    (λ zero_there.
    let absent : IsAbsent start v.touched k = walk_end_tells start seats s.words us o.rule id (seat_in v) a k j some r (word ∙ zero_there) in (
      v,
      keeps,
      tt,
      again start seats id s v o me w v refl refl (same start seats id s v o me),
      ((λ _. (refl, subst (λ (t : Table). IsAbsent t v.touched k) (sym st) absent)), (λ more. absurd (omega arith)), kept),
    ))
    (λ ne.
    let next : LeadsOn start v.seen k w x = leads_on start s.words v.seen o.rule.sound o.rule.walks f.seen k j w here low ne in (
      saw w x v,
      keeps,
      tt,
      again start seats id s v o me w (saw w x v) refl refl (move.follows start seats id s.words us (seat_in v) o.rule a w j k part here r),
      ((λ z. absurd (ne z)), (λ _. (refl, subst (λ (t : Table). LeadsOn t v.seen k w x) (sym st) next)), kept),
    ))

-- ---- a compare and exchange of an entry

pub tries : (start : Table) (seats n id : ℕ) (m : Held) (e k i : ℕ) → 0 < k → k ≤ 2 ^ 48 → 0 < m.0.part → i < 4 → e ≡ 4 * home m.0.start.buckets k + i → Passes (shown m.0.start m.0.seen) k (home m.0.start.buckets k) i
    → Allows (Touches start seats) n id m e (λ y. either (eqb y 0) k y) (tried (step n e 0 k none) m)
tries start seats n id m e k i some named part li is passes s o slots me _ =
    let v : View = m.0 in
    let us : List SeatState = map seat_in s.views in
    let x : ℕ = get_or s.words e 0 in
    let f : Fits start s.words (seat_in v) = fits start seats id s v o me in
    let st : v.start ≡ start = o.begun id v me part in
    let a = at start seats id s v o me in
    let here : e ≡ 4 * home start.buckets k + i = is ∙ ap (λ (t : Table). 4 * home t.buckets k + i) st in
    let pass : Passes (shown start v.seen) k (home start.buckets k) i = subst (λ (t : Table). Passes (shown t v.seen) k (home t.buckets k) i) st passes in
    let next : IsNextKey start v.seen k e = inl (i, li, here, pass) in
    let on : IsOnWalk (shown start s.words) e = move.next_key start seats id s.words us (seat_in v) o.rule a e k next in
    let low : e < entries_in start = walk_low start s.words e o.rule.walks on in
    let kept : IsKept v.seen e x = f.seen e (omega arith) in
    let inside : e < length v.seen = (let p = f.wide part in let q = o.rule.walks.wide in omega arith) in
    let Goes : ℕ → Type 0 = λ y. (w : View) × (b : Act ℕ) × Valid s.homes m.1 b × Touches start seats (stepped s e y id m.1 w b) × tried (step n e 0 k none) m x (w, carried_after m.1 b) in
    exchanged x 0 k Goes
    (λ zero_there.
    let rule : TouchRuleHolds start seats (set s.words e k) (set us id (seat_in (put k e v))) = move.places start seats id s.words us (seat_in v) o.rule a e k i some named part li here pass zero_there in (
      put k e v,
      keeps,
      tt,
      after start seats id s v o me (set s.words e k) (put k e v) refl refl rule,
      ((λ _. refl), (λ more. absurd (omega arith)), kept, (λ _. pair_after start seats id (set s.words e k) us (seat_in v) (seat_in (put k e v)) rule a k e v.touched refl low (get_or-set_same v.seen e k 0 inside))),
    ))
    (λ ne.
    let rule : TouchRuleHolds start seats s.words (set us id (seat_in (found k e x v))) = move.looks start seats id s.words us (seat_in v) o.rule a e k some part next in (
      found k e x v,
      keeps,
      tt,
      again start seats id s v o me e (found k e x v) refl refl rule,
      ((λ z. absurd (ne z)), (λ _. refl), kept, ⊎_elim (λ z. absurd (ne z)) (λ same. found_pair start seats id s v o me e k x rule low inside same)),
    ))

-- ---- a fetch and add of the counter

draw_none : (v : SeatState) → 0 < v.mark → draw_of v ≡ 0
draw_none v e = grind (arith, e)

draw_one : (v : SeatState) (c : ℕ) → (v.mark ≡ 0 → c ≡ 1) → (0 < v.mark → c ≡ 0) → c ≡ draw_of v
draw_one v c one zero_more = elim (cases_eq v.mark 0) [
  | inl z ↦ one z ∙ sym (ap (λ (q : ℕ). cond (eqb q 0) 1 0) z)
  | inr ne ↦ (let e = zero_more (omega arith) in let d : draw_of v ≡ 0 = draw_none v (omega arith) in e ∙ sym d)
]

draw_small : (v : SeatState) → draw_of v ≤ 1
draw_small v = grind (arith, cases_eq v.mark 0)

-- the counter doesn't wrap: what is written is the machine's number
pub drawn_next : (start : Table) (seats id : ℕ) (s : State ℕ View) (v : View) → Touches start seats s → get_elem? s.views id ≡ there_is v → (w c : ℕ) → get_or s.words w 0 ≡ drawn start s.words → c ≡ draw_of (seat_in v)
    → (get_or s.words w 0 + c) % 2 ^ 64 ≡ drawn start s.words + draw_of (seat_in v)
drawn_next start seats id s v o me w c is by =
    let few : drawn start s.words ≤ start.nodes + seats = move.counter_fits start seats id s.words (map seat_in s.views) (seat_in v) o.rule (at start seats id s v o me) in
    let few_seats : seats ≤ 64 = o.rule.few in
    let few_nodes : start.nodes ≤ 1000000 = o.rule.sound.few_nodes in
    let small : draw_of (seat_in v) ≤ 1 = draw_small (seat_in v) in
    mod-eq_of_lt (let q : get_or s.words w 0 + c < 2 ^ 64 = omega arith in q) ∙ (let q : get_or s.words w 0 + c ≡ drawn start s.words + draw_of (seat_in v) = omega arith in q)

pub draws : (start : Table) (seats n id : ℕ) (m : Held) (w c : ℕ) → 0 < m.0.part → w ≡ counter_at m.0.start → m.0.nodes ≡ [] → (m.0.mark ≡ 0 → c ≡ 1) → (0 < m.0.mark → c ≡ 0)
    → Allows (Touches start seats) n id m w (λ y. (y + c) % 2 ^ 64) (drawing (step n w c 0 none) m)
draws start seats n id m w c part is no_nodes one zero_more s o slots me _ =
    let v : View = m.0 in
    let us : List SeatState = map seat_in s.views in
    let st : v.start ≡ start = o.begun id v me part in
    let a = at start seats id s v o me in
    let here : w ≡ counter_at start = is ∙ ap counter_at st in
    let is_x : get_or s.words w 0 ≡ drawn start s.words = ap (λ (b : ℕ). get_or s.words b 0) here in
    let by : c ≡ draw_of (seat_in v) = draw_one (seat_in v) c one zero_more in
    let nb : v.start.nodes ≡ start.nodes = ap (λ (t : Table). t.nodes) st in
    let next : (get_or s.words w 0 + c) % 2 ^ 64 ≡ drawn start s.words + draw_of (seat_in v) = drawn_next start seats id s v o me w c is_x by in
    let R : ℕ → ℕ → View → Type 0 = λ d y u. IsShared start seats (set s.words d y) (set s.views id u) in
    let back : (u : View) → R (counter_at start) (drawn start s.words + draw_of (seat_in v)) u → R w ((get_or s.words w 0 + c) % 2 ^ 64) u = λ u r. subst (λ (d : ℕ). R d ((get_or s.words w 0 + c) % 2 ^ 64) u) (sym here) (subst (λ (y : ℕ). R (counter_at start) y u) (sym next) r) in
    dite (dec_le start.nodes (drawn start s.words))
    (λ end. (
      past (get_or s.words w 0) v,
      keeps,
      tt,
      subst (λ (y : ℕ). R w ((get_or s.words w 0 + c) % 2 ^ 64) (past y v)) (sym is_x) (back (past (drawn start s.words) v) (after start seats id s v o me (set s.words (counter_at start) (drawn start s.words + draw_of (seat_in v))) (past (drawn start s.words) v) refl refl (move.draws_past start seats id s.words us (seat_in v) o.rule a part end))),
      ((λ lt. absurd (omega arith)), λ _. refl),
    ))
    (λ before.
    let lt : drawn start s.words < start.nodes = omega arith in (
      drew (get_or s.words w 0) v,
      keeps,
      tt,
      subst (λ (y : ℕ). R w ((get_or s.words w 0 + c) % 2 ^ 64) (drew y v)) (sym is_x) (back (drew (drawn start s.words) v) (after start seats id s v o me (set s.words (counter_at start) (drawn start s.words + draw_of (seat_in v))) (drew (drawn start s.words) v) refl refl (move.draws start seats id s.words us (seat_in v) o.rule a part no_nodes lt))),
      ((λ _. refl), λ le. absurd (omega arith)),
    ))

-- ---- a load that tells the bounds of a part

pub weighs : (start : Table) (seats n id : ℕ) (m : Held) (e : ℕ) → Allows (Touches start seats) n id m e (λ y. y) (weighed (step n e 0 0 none) m)
weighs start seats n id m e s o slots me _ =
    let v : View = m.0 in
    let us : List SeatState = map seat_in s.views in
    let f : Fits start s.words (seat_in v) = fits start seats id s v o me in
    let le : v.part ≤ sum_by (λ (u : SeatState). u.part) us = term_le (λ (u : SeatState). u.part) us id (seat_in v) (at start seats id s v o me) in
    let all : sum_by (λ (u : SeatState). u.part) us ≡ seats = o.rule.parts in
    let few : seats ≤ 64 = o.rule.few in
    (v, keeps, tt, again start seats id s v o me e v refl refl (same start seats id s v o me), (refl, omega arith, f.few))

-- ---- a key is stored in the last unlinked node

pub stores : (start : Table) (seats n id : ℕ) (m : Held) (w a x y : ℕ) (r : List (ℕ × ℕ)) → x ≤ 2 ^ 48 → 0 < m.0.part → m.0.nodes ≡ (a, y) ∷ r → w ≡ 4 * m.0.start.buckets + a
    → Allows (Touches start seats) n id m w (λ _. x) (λ _. storing (step n w x 0 none) m x)
stores start seats n id m w a x y r named part is place s o slots me _ =
    let v : View = m.0 in
    let us : List SeatState = map seat_in s.views in
    let st : v.start ≡ start = o.begun id v me part in
    let here : w ≡ 4 * start.buckets + a = place ∙ ap (λ (t : Table). 4 * t.buckets + a) st in
    let now : IsShared start seats (set s.words (4 * start.buckets + a) x) (set s.views id (stored x v)) =
    after start seats id s v o me (set s.words (4 * start.buckets + a) x) (stored x v) refl refl (move.stores start seats id s.words us (seat_in v) o.rule (at start seats id s v o me) a x y r named part is) in
    (stored x v, keeps, tt, subst (λ (d : ℕ). IsShared start seats (set s.words d x) (set s.views id (stored x v))) (sym here) now, refl)

-- ---- the last unlinked node is linked

pub hangs : (start : Table) (seats n id : ℕ) (m : Held) (w j a y k : ℕ) (r : List (ℕ × ℕ)) → 0 < k → 0 < m.0.part → m.0.nodes ≡ (a, k) ∷ r → y ≡ suc a → w ≡ link_at m.0.start j → IsNextLink m.0.start m.0.seen k j
    → Allows (Touches start seats) n id m w (λ z. either (eqb z 0) y z) (hanging k (step n w 0 y none) m)
hangs start seats n id m w j a y k r some part is ya place reached s o slots me _ =
    let v : View = m.0 in
    let us : List SeatState = map seat_in s.views in
    let x : ℕ = get_or s.words w 0 in
    let f : Fits start s.words (seat_in v) = fits start seats id s v o me in
    let st : v.start ≡ start = o.begun id v me part in
    let b = at start seats id s v o me in
    let here : w ≡ link_at start j = place ∙ ap (λ (t : Table). link_at t j) st in
    let rc : IsNextLink start v.seen k j = subst (λ (t : Table). IsNextLink t v.seen k j) st reached in
    let low : j < start.buckets + start.nodes = move.link_low start seats id s.words us (seat_in v) o.rule b j k rc in
    let kept : IsKept v.seen w x = f.seen w (omega arith) in
    let Goes : ℕ → Type 0 = λ z. (u : View) × (act : Act ℕ) × Valid s.homes m.1 act × Touches start seats (stepped s w z id m.1 u act) × hanging k (step n w 0 y none) m x (u, carried_after m.1 act) in
    exchanged x 0 y Goes
    (λ zero_there.
    let e : ℕ = 4 * v.start.buckets + a in
    let es : 4 * start.buckets + a ≡ 4 * v.start.buckets + a = ap (λ (t : Table). 4 * t.buckets + a) (sym st) in
    let R : ℕ → ℕ → Type 0 = λ z d. IsShared start seats (set s.words w z) (set s.views id (hung k w a d v)) in
    let rule : TouchRuleHolds start seats (set s.words w (suc a)) (set us id (seat_in (hung k w a (4 * start.buckets + a) v))) = move.hangs start seats id s.words us (seat_in v) o.rule b w j a k r some part is here rc zero_there in
    let now : R (suc a) (4 * start.buckets + a) = after start seats id s v o me (set s.words w (suc a)) (hung k w a (4 * start.buckets + a) v) refl refl rule in
    let node : a < start.nodes = (f.filled a k (subst (λ (l : List (ℕ × ℕ)). 0 < pairs_at a k l) (sym is) (holds_here a k r))).0 in
    let long : length (set v.seen w (suc a)) ≡ length v.seen = length-set v.seen w (suc a) in
    let inside : 4 * start.buckets + a < length (set v.seen w (suc a)) = (let p = f.wide part in let q = o.rule.walks.wide in omega arith) in
    let pair : HasPair k (4 * start.buckets + a) (hung k w a (4 * start.buckets + a) v) = pair_after start seats id (set s.words w (suc a)) us (seat_in v) (seat_in (hung k w a (4 * start.buckets + a) v)) rule b k (4 * start.buckets + a) v.touched refl (omega arith) (get_or-set_same (set v.seen w (suc a)) (4 * start.buckets + a) k 0 inside) in
    let P : ℕ → ℕ → Type 0 = λ d c. HasPair k d (hung k w a c v) in
    let G : ℕ → ℕ → Type 0 = λ c d. ◌≡◌ {A = Held} (hung k w a (4 * v.start.buckets + a) v, m.1) (hung k w c d v, m.1) in (
      hung k w a (4 * v.start.buckets + a) v,
      keeps,
      tt,
      subst (λ (z : ℕ). R z (4 * v.start.buckets + a)) (sym ya) (subst (R (suc a)) es now),
      (
        (λ _ c sc. (let ac : a ≡ c = omega arith in let ec : 4 * v.start.buckets + a ≡ 4 * v.start.buckets + c = ap (λ (d : ℕ). 4 * v.start.buckets + d) ac in subst (G c) ec (subst (λ (d : ℕ). G d (4 * v.start.buckets + a)) ac refl))),
        (λ more_than. absurd (omega arith)),
        kept,
        (λ _ c sc. (let ac : a ≡ c = omega arith in let ec : 4 * start.buckets + a ≡ 4 * v.start.buckets + c = es ∙ ap (λ (d : ℕ). 4 * v.start.buckets + d) ac in subst (λ (d : ℕ). P d (4 * v.start.buckets + a)) ec (subst (P (4 * start.buckets + a)) es pair))),
      ),
    ))
    (λ ne.
    let next : LeadsOn start v.seen k w x = leads_on start s.words v.seen o.rule.sound o.rule.walks f.seen k j w here low ne in (
      saw w x v,
      keeps,
      tt,
      again start seats id s v o me w (saw w x v) refl refl (move.follows start seats id s.words us (seat_in v) o.rule b w j k part here rc),
      ((λ z. absurd (ne z)), (λ _. (refl, subst (λ (t : Table). LeadsOn t v.seen k w x) (sym st) next)), kept, (λ z. absurd (ne z))),
    ))

-- ---- splits and joins

pub cuts : (start : Table) (seats id : ℕ) (v : View) (k : ℕ) → 1 ≤ k → k < v.part → IsFresh v → Splits (Touches start seats) id v (cut_left k v) (cut_right k v)
cuts start seats id v k one less fresh s o me =
    let l : View = cut_left k v in
    let r : View = cut_right k v in
    let us : List SeatState = map seat_in s.views in
    let st : v.start ≡ start = o.begun id v me (omega arith) in
    let same : map seat_in (set s.views id l ++ r ∷ []) ≡ set us id (seat_in l) ++ seat_in r ∷ [] = map-append seat_in (set s.views id l) (r ∷ []) ∙ ap (λ (z : List SeatState). z ++ seat_in r ∷ []) (map-set seat_in s.views id l) in
    record {
      rule = subst (TouchRuleHolds start seats s.words) (sym same) (rule_cut start seats id s.words us (seat_in v) k one less fresh.placed fresh.nodes fresh.mark o.rule (at_map seat_in s.views id v me));
      begun = λ i u e p. ⊎_elim (λ t. ⊎_elim (λ q. ap (λ (z : View). z.start) (sym q.1) ∙ st) (λ q. o.begun i u q.1 p) (at_set s.views id i l u t)) (λ t. ap (λ (z : View). z.start) (sym t) ∙ st) (at_snoc (set s.views id l) r u i e);
    }

pub joins : (start : Table) (seats id other : ℕ) (v w : View) → 0 < v.part → Joins (Touches start seats) id v other w (both v w) gone
joins start seats id other v w part s o me ne them =
    let b : View = both v w in
    let us : List SeatState = map seat_in s.views in
    let st : v.start ≡ start = o.begun id v me part in
    let was : get_elem? s.views other ≡ there_is w = ⊎_elim (λ y. absurd (ne y.0)) (λ y. y.1) (at_set s.views id other b w them) in
    let one : map seat_in (set s.views id b) ≡ set us id (seat_in b) = map-set seat_in s.views id b in
    let same : map seat_in (set (set s.views id b) other gone) ≡ set (set us id (seat_in b)) other (seat_in gone) = map-set seat_in (set s.views id b) other gone ∙ ap (λ (z : List SeatState). set z other (seat_in gone)) one in
    let there : get_elem? (set us id (seat_in b)) other ≡ there_is (seat_in w) = subst (λ (z : List SeatState). get_elem? z other ≡ there_is (seat_in w)) one (at_map seat_in (set s.views id b) other w them) in
    record {
      rule = subst (TouchRuleHolds start seats s.words) (sym same) (rule_joined start seats id other s.words us (seat_in v) (seat_in w) part o.rule (at_map seat_in s.views id v me) ne (at_map seat_in s.views other w was) there);
      begun = λ i u e p. ⊎_elim (λ t. absurd (let z : gone.part ≡ u.part = ap (λ (y : View). y.part) t.1 in omega arith))
          (λ t. ⊎_elim (λ q. ap (λ (z : View). z.start) (sym q.1) ∙ st) (λ q. o.begun i u q.1 p) (at_set s.views id i b u t.1)) (at_set (set s.views id b) other i gone u e);
    }

-- ---- the start

only_first : (f : View) (i : ℕ) (v : View) → get_elem? (f ∷ []) i ≡ there_is v → f ≡ v
only_first f zero v e = some-injective f v e
only_first f (suc i) v e = absurd (some-ne-none v (sym e))

pub opens : (start : Table) → IsSound start → (seats : ℕ) → 0 < seats → seats ≤ 64 → Touches start seats (opening (start.words ++ start.linked ∷ []) [] (first_view start seats))
opens start s seats some few = record {
  rule = opens_one start s seats some few;
  begun = λ i v e p. ap (λ (z : View). z.start) (sym (only_first (first_view start seats) i v e));
}
