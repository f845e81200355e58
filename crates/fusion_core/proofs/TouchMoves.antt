-- Each step keeps the rule.
use Rattle.std.proofs.Common.{◌≡◌, ◌≢◌, ℕ, suc, ◌+◌, ◌*◌, ◌^◌, ◌<◌, ◌≤◌, eqb, cond, List, [], ◌∷◌, ◌++◌, length, set, get_or, refl, sym, ap, ◌∙◌, arith, inl, inr, subst, ⊎_elim}
use Rattle.std.specs.Prelude.{sum_by}
use Rattle.std.proofs.lemmas.Bool.{cases_eq}
use mathlib.Core.Option.{some as there_is}
use lib.ListN.{get_elem?}
use Rattle.spatial_hash.specs.Hash.{home}
use Rattle.spatial_hash.specs.Table.{Table, link_word}
use Rattle.spatial_hash.proofs.Homes.{home_low}
use Rattle.fusion_core.specs.TouchSeats.{SeatState}
use Rattle.fusion_core.specs.TouchCounts.{times, firsts}
use Rattle.fusion_core.specs.TouchWords.{shown, counter_at, drawn, link_at, IsOnWalk, Passes}
use Rattle.fusion_core.specs.TouchRule.{IsWalked, IsDealt, IsPlaced, Fits, TouchRuleHolds, owners_in, placings, spent}
use Rattle.fusion_core.specs.TouchSteps.{saw, found, put, drew, past, stored, refilled, hung, without_last, draw_of, IsNextKey, IsNextLink}
use Rattle.fusion_core.proofs.TouchSums.{at_set, sum-set, sum-kept, term_le, terms_le, times-append, firsts-cons, pairs-cons}
use Rattle.std.proofs.lemmas.List.Sums.{sum_by-le-sum_by}
use Rattle.fusion_core.proofs.TouchPairs.{touched_has, each_cons, Each, holds_here, test_yes}
use Rattle.fusion_core.proofs.TouchGrowing.{walk_low, walk_node}
use Rattle.fusion_core.proofs.TouchSeeing.{Known}
use Rattle.fusion_core.proofs.TouchKnowing.{fits_saw, fits_placed, fits_nodes, fits_mark, fits_found}
use Rattle.fusion_core.proofs.TouchReached.{next_on, seen_link}
use Rattle.fusion_core.proofs.TouchPlacing
use Rattle.fusion_core.proofs.TouchLinking
use Rattle.fusion_core.proofs.TouchOffWalks.{alike_counted, walks_alike, origin_alike, dealt_past, dealt_more, count_is, others_counted, node_key, alike_filled, dealt_filled, filled_here, filled_count, others_filled}

-- ---- the same by other counts

dealt_same : (start : Table) (ws : List ℕ) (a b : ℕ → ℕ) → ((n : ℕ) → b n ≡ a n) → IsDealt start ws a → IsDealt start ws b
dealt_same start ws a b is d = record {
  grown = d.grown;
  fresh = λ n lt f. (let o = d.fresh n lt f in (o.0, o.1, is n ∙ o.2));
  spare = λ n p. d.spare n (let e = is n in omega arith);
  once = λ n. (let e = is n in let o : a n ≤ 1 = d.once n in omega arith);
  walked = λ n lt f z. d.walked n lt f (sym (is n) ∙ z);
}

origin_same : (start : Table) (ws : List ℕ) (a b : ℕ → ℕ) → ((x : ℕ) → b x ≡ a x) → IsPlaced start ws a → IsPlaced start ws b
origin_same start ws a b is o = record {
  once = λ x. (let e = is x in let p : a x ≤ 1 = o.once x in omega arith);
  there = λ x p. o.there x (let e = is x in omega arith);
  back = λ e lt on f z. (let p : 0 < a (get_or ws e 0) = o.back e lt on f z in let q = is (get_or ws e 0) in omega arith);
}

spent_same : (u v : SeatState) → u.part ≡ v.part → u.mark ≡ v.mark → spent u ≡ spent v
spent_same u v p m = ap (λ (x : ℕ). cond (eqb x 0) 0 u.part) m ∙ ap (λ (x : ℕ). cond (eqb v.mark 0) 0 x) p

spent_le : (v : SeatState) → spent v ≤ v.part
spent_le v = grind arith

spent_none : (v : SeatState) → v.mark ≡ 0 → spent v ≡ 0
spent_none v e = grind (arith, e)

spent_all : (v : SeatState) → 0 < v.mark → spent v ≡ v.part
spent_all v e = grind (arith, e)

drawn_none : (v : SeatState) → 0 < v.mark → draw_of v ≡ 0
drawn_none v e = grind (arith, e)

module _ (start : Table) (seats id : ℕ) (ws : List ℕ) (vs : List SeatState) (v : SeatState) (o : TouchRuleHolds start seats ws vs) (me : get_elem? vs id ≡ there_is v) where
  abbrev f : Fits start ws v
  f = o.each id v me

  -- the seat's step made these words, and the seat is now w
  assembled : (xs : List ℕ) (w : SeatState) → w.part ≡ v.part → IsWalked start xs → IsDealt start xs (owners_in (set vs id w)) → IsPlaced start xs (placings (set vs id w))
      → ((i : ℕ) (u : SeatState) → i ≢ id → get_elem? vs i ≡ there_is u → Fits start xs u) → Fits start xs w → drawn start xs ≤ start.nodes + sum_by spent (set vs id w) → TouchRuleHolds start seats xs (set vs id w)
  assembled xs w part walks dealt origin others own counter = record {
    sound = o.sound;
    walks = walks;
    dealt = dealt;
    origin = origin;
    each = λ i u e. ⊎_elim (λ t. subst (Fits start xs) t.1 own) (λ t. others i u t.0 t.1) (at_set vs id i w u e);
    few = o.few;
    parts = sum-kept (λ u. u.part) vs id v w me part ∙ o.parts;
    counter = counter;
  }

  -- the words stay, and the seat knows more
  pub learned : (w : SeatState) → w.part ≡ v.part → w.nodes ≡ v.nodes → w.placed ≡ v.placed → w.mark ≡ v.mark → Fits start ws w → TouchRuleHolds start seats ws (set vs id w)
  learned w part nodes placed mark own =
      assembled ws w part o.walks
      (dealt_same start ws (owners_in vs) (owners_in (set vs id w)) (λ n. sum-kept (λ u. firsts n u.nodes) vs id v w me (ap (firsts n) nodes)) o.dealt)
      (origin_same start ws (placings vs) (placings (set vs id w)) (λ x. sum-kept (λ u. times x u.placed) vs id v w me (ap (times x) placed)) o.origin)
      (λ i u ne at. o.each i u at) own
      (let c : drawn start ws ≤ start.nodes + sum_by spent vs = o.counter in let e = sum-kept spent vs id v w me (spent_same w v part mark) in omega arith)

  -- ---- a word is seen

  pub next_key : (e k : ℕ) → IsNextKey start v.seen k e → IsOnWalk (shown start ws) e
  next_key e k next = let s = f.seen in next_on start ws v.seen o.sound o.walks s k e next

  -- the key word of a node that is next is not 0
  pub node_filled : (e : ℕ) → IsOnWalk (shown start ws) e → 4 * start.buckets ≤ e → 0 < get_or ws e 0
  node_filled e (inl lt) le = absurd (omega arith)
  node_filled e (inr m) le =
      let n = walk_node start ws (owners_in vs) m.0 o.walks o.dealt m.2 in
      let g : 0 < get_or ws (4 * start.buckets + m.0) 0 = n.filled in
      subst (λ (x : ℕ). 0 < get_or ws x 0) (sym m.1) g

  pub looks : (e k : ℕ) → 0 < k → 0 < v.part → IsNextKey start v.seen k e → TouchRuleHolds start seats ws (set vs id (found k e (get_or ws e 0) v))
  looks e k some part next =
      let on = next_key e k next in
      learned (found k e (get_or ws e 0) v) refl refl refl refl (fits_found start ws v k e (get_or ws e 0) o.walks f part some (walk_low start ws e o.walks on) on refl)

  -- a link that is next is one of the table's
  pub link_low : (j k : ℕ) → IsNextLink start v.seen k j → j < start.buckets + start.nodes
  link_low j k next = let s = f.seen in (seen_link start ws v.seen o.sound o.walks s k next.1.0 j next.1.1).0

  pub follows : (w j k : ℕ) → 0 < v.part → w ≡ link_at start j → IsNextLink start v.seen k j → TouchRuleHolds start seats ws (set vs id (saw w (get_or ws w 0) v))
  follows w j k part is next =
      let low : j < start.buckets + start.nodes = link_low j k next in
      learned (saw w (get_or ws w 0) v) refl refl refl refl (fits_saw start ws v f w (get_or ws w 0) part (omega arith) o.walks.wide refl (λ n lt off q. absurd (omega arith)))

  -- ---- a key is placed at an entry

  pub places : (e k i : ℕ) → 0 < k → k ≤ 2 ^ 48 → 0 < v.part → i < 4 → e ≡ 4 * home start.buckets k + i → Passes (shown start v.seen) k (home start.buckets k) i → get_or ws e 0 ≡ 0
      → TouchRuleHolds start seats (set ws e k) (set vs id (put k e v))
  places e k i some named part li at pass zero_there =
      let kn : Known start ws v.seen = f.seen in
      let lh : home start.buckets k < start.buckets = home_low start.buckets k o.sound.some_buckets in
      let free : get_or ws (4 * home start.buckets k + i) 0 ≡ 0 = ap (λ (a : ℕ). get_or ws a 0) (sym at) ∙ zero_there in
      let P : ℕ → Type 0 = λ d. TouchRuleHolds start seats (set ws d k) (set vs id (put k d v)) in
      let d : ℕ = 4 * home start.buckets k + i in
      let u : SeatState = put k d v in
      let walks = TouchPlacing.walks start ws v.seen (owners_in vs) o.sound o.walks o.dealt kn k some named i li pass free in
      let fv = TouchPlacing.others start ws v.seen (owners_in vs) o.sound o.walks o.dealt kn k some named i li pass free v f in
      let seen_it = fits_found start (set ws d k) v k d k walks fv part some (omega arith) (inl (omega arith)) (TouchPlacing.here start ws v.seen (owners_in vs) o.sound o.walks o.dealt kn k some named i li pass free) in
      let own : Fits start (set ws d k) u = fits_placed start (set ws d k) (found k d k v) seen_it k part (touched_has k d v.touched) in
      let now : TouchRuleHolds start seats (set ws d k) (set vs id u) =
      assembled (set ws d k) u refl walks
      (dealt_same start (set ws d k) (owners_in vs) (owners_in (set vs id u)) (λ b. sum-kept (λ z. firsts b z.nodes) vs id v u me refl) (TouchPlacing.dealt_after start ws v.seen (owners_in vs) o.sound o.walks o.dealt kn k some named i li pass free))
      (TouchPlacing.origin_after start ws v.seen (owners_in vs) o.sound o.walks o.dealt kn k some named i li pass free (placings vs) (placings (set vs id u)) o.origin
      (λ y. (let a = sum-set (λ z. times y z.placed) vs id v u me in let b = times-append y v.placed (k ∷ []) in omega arith)))
      (λ j z ne there. TouchPlacing.others start ws v.seen (owners_in vs) o.sound o.walks o.dealt kn k some named i li pass free z (o.each j z there)) own
      (let c : drawn start ws ≤ start.nodes + sum_by spent vs = o.counter in let q = TouchPlacing.count start ws v.seen (owners_in vs) o.sound o.walks o.dealt kn k some named i li pass free in let r = sum-kept spent vs id v u me refl in omega arith) in
      subst P (sym at) now

  -- ---- a number is drawn

  -- the counter does not wrap
  pub counter_fits : drawn start ws ≤ start.nodes + seats
  counter_fits =
      let bound : drawn start ws ≤ start.nodes + sum_by spent vs = o.counter in
      let fit : sum_by spent vs ≤ sum_by (λ u. u.part) vs = sum_by-le-sum_by spent (λ u. u.part) vs spent_le in
      let all : sum_by (λ u. u.part) vs ≡ seats = o.parts in
      omega arith

  abbrev counted : List ℕ
  counted = set ws (counter_at start) (drawn start ws + draw_of v)

  counted_up : drawn start ws ≤ drawn start ws + draw_of v
  counted_up = omega arith

  pub draws_past : 0 < v.part → start.nodes ≤ drawn start ws → TouchRuleHolds start seats counted (set vs id (past (drawn start ws) v))
  draws_past part end =
      let x : ℕ = drawn start ws in
      let y : ℕ = drawn start ws + draw_of v in
      let w : SeatState = past (drawn start ws) v in
      let up = counted_up in
      let bound : drawn start ws ≤ start.nodes + sum_by spent vs = o.counter in
      let al = alike_counted start ws (owners_in vs) o.sound o.walks o.dealt y up in
      let now_is : drawn start counted ≡ y = count_is start ws (owners_in vs) o.sound o.walks o.dealt y up in
      let own : Fits start counted w = fits_mark start counted v (others_counted start ws (owners_in vs) o.sound o.walks o.dealt y up v f) (suc (drawn start ws)) part (omega arith, omega arith) in
      let d : spent w ≡ v.part = spent_all w (omega arith) in
      let a = sum-set spent vs id v w me in
      let count : y ≤ start.nodes + sum_by spent (set vs id w) = elim (cases_eq v.mark 0) [
        | inl z ↦ (let e : draw_of v ≡ 1 = ap (λ (q : ℕ). cond (eqb q 0) 1 0) z in let b = spent_none v z in omega arith)
        | inr ne ↦ (let e : draw_of v ≡ 0 = drawn_none v (omega arith) in let b = spent_all v (omega arith) in omega arith)
      ] in
      assembled counted w refl (walks_alike start ws counted o.walks al)
      (dealt_same start counted (owners_in vs) (owners_in (set vs id w)) (λ b. sum-kept (λ z. firsts b z.nodes) vs id v w me refl) (dealt_past start ws (owners_in vs) o.sound o.walks o.dealt y up end))
      (origin_same start counted (placings vs) (placings (set vs id w)) (λ b. sum-kept (λ z. times b z.placed) vs id v w me refl) (origin_alike start ws counted o.walks al (placings vs) o.origin))
      (λ j z ne there. others_counted start ws (owners_in vs) o.sound o.walks o.dealt y up z (o.each j z there)) own (omega arith)

  pub draws : 0 < v.part → v.nodes ≡ [] → drawn start ws < start.nodes → TouchRuleHolds start seats counted (set vs id (drew (drawn start ws) v))
  draws part no_nodes lt =
      let x : ℕ = drawn start ws in
      let y : ℕ = drawn start ws + draw_of v in
      let w : SeatState = drew (drawn start ws) v in
      let up = counted_up in
      let bound : drawn start ws ≤ start.nodes + sum_by spent vs = o.counter in
      let z : v.mark ≡ 0 = elim (cases_eq v.mark 0) [ inl z ↦ z | inr ne ↦ (let q : start.nodes ≤ x = (f.marked (omega arith)).1 in absurd (omega arith)) ] in
      let one : draw_of v ≡ 1 = ap (λ (q : ℕ). cond (eqb q 0) 1 0) z in
      let al = alike_counted start ws (owners_in vs) o.sound o.walks o.dealt y up in
      let now_is : drawn start counted ≡ y = count_is start ws (owners_in vs) o.sound o.walks o.dealt y up in
      let fv : Fits start counted v = others_counted start ws (owners_in vs) o.sound o.walks o.dealt y up v f in
      let z0 : get_or ws (4 * start.buckets + x) 0 ≡ 0 = (o.dealt.fresh x lt (omega arith)).1 in
      let key : get_or counted (4 * start.buckets + x) 0 ≡ 0 = node_key start ws (owners_in vs) o.sound o.walks o.dealt y up x lt ∙ z0 in
      let own : Fits start counted w = fits_nodes start counted v fv ((x, 0) ∷ v.nodes) part
      (each_cons (λ a b. (a < start.nodes) × (get_or counted (4 * start.buckets + a) 0 ≡ b)) x 0 v.nodes (lt, key) fv.filled) (let l : length v.nodes ≡ 0 = ap length no_nodes in omega arith) in
      let a = sum-kept spent vs id v w me refl in
      assembled counted w refl (walks_alike start ws counted o.walks al)
      (dealt_more start ws (owners_in vs) o.sound o.walks o.dealt y up (owners_in (set vs id w)) lt (omega arith) (λ b. (let t = sum-set (λ u. firsts b u.nodes) vs id v w me in let c = firsts-cons b (x, 0) v.nodes in omega arith)))
      (origin_same start counted (placings vs) (placings (set vs id w)) (λ b. sum-kept (λ u. times b u.placed) vs id v w me refl) (origin_alike start ws counted o.walks al (placings vs) o.origin))
      (λ j u ne there. others_counted start ws (owners_in vs) o.sound o.walks o.dealt y up u (o.each j u there)) own (omega arith)

  -- ---- a key is stored in the last unlinked node, and this is linked

  -- the seat has its last unlinked node alone, and once
  pub record IsMine (n : ℕ) (rest : List (ℕ × ℕ)) : Type 0 where
    pub mine : 0 < owners_in vs n
    pub rest_free : firsts n rest ≡ 0
    pub others : (i : ℕ) (u : SeatState) → i ≢ id → get_elem? vs i ≡ there_is u → firsts n u.nodes ≡ 0

  is_mine : (n y : ℕ) (r : List (ℕ × ℕ)) → v.nodes ≡ (n, y) ∷ r → IsMine n r
  is_mine n y r is =
      let t = test_yes n n refl in
      let here : firsts n ((n, y) ∷ r) ≡ 1 + firsts n r = omega (arith, firsts-cons n (n, y) r) in
      let one : firsts n v.nodes ≡ 1 + firsts n r = ap (firsts n) is ∙ here in
      let le : firsts n v.nodes ≤ owners_in vs n = term_le (λ u. firsts n u.nodes) vs id v me in
      let most : owners_in vs n ≤ 1 = o.dealt.once n in
      record {
        mine = omega arith;
        rest_free = omega arith;
        others = λ i u ne at. (let two : firsts n v.nodes + firsts n u.nodes ≤ owners_in vs n = terms_le (λ z. firsts n z.nodes) vs id i v u ne me at in omega arith);
      }

  abbrev NodesIn : List ℕ → ℕ → ℕ → Type 0
  NodesIn xs n x = (n < start.nodes) × (get_or xs (4 * start.buckets + n) 0 ≡ x)

  each_tail : (P : ℕ → ℕ → Type 0) (p : ℕ × ℕ) (r : List (ℕ × ℕ)) → Each P (p ∷ r) → Each P r
  each_tail P p r each x e h = each x e (omega (arith, h, pairs-cons x e p r))

  -- the last unlinked node is one of the table's, and has its word
  pub node_is : (n y : ℕ) (r : List (ℕ × ℕ)) → v.nodes ≡ (n, y) ∷ r → NodesIn ws n y
  node_is n y r is = (let old : Each (NodesIn ws) ((n, y) ∷ r) = subst (Each (NodesIn ws)) is f.filled in old n y (holds_here n y r))

  pub stores : (a x y : ℕ) (r : List (ℕ × ℕ)) → x ≤ 2 ^ 48 → 0 < v.part → v.nodes ≡ (a, y) ∷ r → TouchRuleHolds start seats (set ws (4 * start.buckets + a) x) (set vs id (stored x v))
  stores a x y r named part is =
      let i = is_mine a y r is in
      let xs : List ℕ = set ws (4 * start.buckets + a) x in
      let w : SeatState = stored x v in
      let nodes : w.nodes ≡ (a, x) ∷ r = ap (refilled x) is in
      let al = alike_filled start ws (owners_in vs) o.sound o.walks o.dealt a x i.mine named in
      let old : Each (NodesIn ws) ((a, y) ∷ r) = subst (Each (NodesIn ws)) is f.filled in
      let few : length v.nodes ≤ v.part = f.few in
      let ln : length v.nodes ≡ suc (length r) = ap length is in
      let u : SeatState = record v { nodes = r } in
      let fu : Fits start ws u = fits_nodes start ws v f r part (each_tail (NodesIn ws) (a, y) r old) (omega arith) in
      let gu : Fits start xs u = others_filled start ws (owners_in vs) o.sound o.walks o.dealt a x i.mine named u i.rest_free fu in
      let low : a < start.nodes = (o.dealt.spare a i.mine).0 in
      let own0 : Fits start xs (record u { nodes = (a, x) ∷ r }) = fits_nodes start xs u gu ((a, x) ∷ r) part (each_cons (NodesIn xs) a x r (low, filled_here start ws (owners_in vs) o.sound o.walks o.dealt a x i.mine named) gu.filled) (let q : suc (length r) ≤ v.part = omega arith in q) in
      let own : Fits start xs w = subst (λ (l : List (ℕ × ℕ)). Fits start xs (record v { nodes = l })) (sym nodes) own0 in
      let same : (b : ℕ) → firsts b w.nodes ≡ firsts b v.nodes = λ b. ap (firsts b) nodes ∙ sym (ap (firsts b) is) in
      assembled xs w refl (walks_alike start ws xs o.walks al)
      (dealt_filled start ws (owners_in vs) o.sound o.walks o.dealt a x i.mine named (owners_in (set vs id w)) (λ b. sum-kept (λ z. firsts b z.nodes) vs id v w me (same b)))
      (origin_same start xs (placings vs) (placings (set vs id w)) (λ b. sum-kept (λ z. times b z.placed) vs id v w me refl) (origin_alike start ws xs o.walks al (placings vs) o.origin))
      (λ j z ne there. others_filled start ws (owners_in vs) o.sound o.walks o.dealt a x i.mine named z (i.others j z ne there) (o.each j z there))
      own
      (let c : drawn start ws ≤ start.nodes + sum_by spent vs = o.counter in let q = filled_count start ws (owners_in vs) o.sound o.walks o.dealt a x i.mine named in let e = sum-kept spent vs id v w me refl in omega arith)

  pub hangs : (w0 j a k : ℕ) (r : List (ℕ × ℕ)) → 0 < k → 0 < v.part → v.nodes ≡ (a, k) ∷ r → w0 ≡ link_at start j → IsNextLink start v.seen k j → get_or ws w0 0 ≡ 0
      → TouchRuleHolds start seats (set ws w0 (suc a)) (set vs id (hung k w0 a (4 * start.buckets + a) v))
  hangs w0 j a k r some part is here rc zero_there =
      let kn : Known start ws v.seen = f.seen in
      let low : j < start.buckets + start.nodes = link_low j k rc in
      let i = is_mine a k r is in
      let key : get_or ws (4 * start.buckets + a) 0 ≡ k = (node_is a k r is).1 in
      let free : link_word (shown start ws) j ≡ 0 = ap (λ (b : ℕ). get_or ws b 0) (sym here) ∙ zero_there in
      let xs : List ℕ = set ws (link_at start j) (suc a) in
      let e : ℕ = 4 * start.buckets + a in
      let lw : ℕ = link_at start j in
      let w : SeatState = hung k lw a e v in
      let walks = TouchLinking.walks start ws v.seen (owners_in vs) o.sound o.walks o.dealt kn k some rc.1.0 j rc.0 rc.1.1 free a i.mine key in
      let others = λ (z : SeatState) (g : Fits start ws z). TouchLinking.others start ws v.seen (owners_in vs) o.sound o.walks o.dealt kn k some rc.1.0 j rc.0 rc.1.1 free a i.mine key z g in
      let led_new = TouchLinking.led_new start ws v.seen (owners_in vs) o.sound o.walks o.dealt kn k some rc.1.0 j rc.0 rc.1.1 free a i.mine key in
      let link_here = TouchLinking.link_here start ws v.seen (owners_in vs) o.sound o.walks o.dealt kn k some rc.1.0 j rc.0 rc.1.1 free a i.mine key in
      let lown : a < start.nodes = (o.dealt.spare a i.mine).0 in
      let there : get_or xs e 0 ≡ k = TouchLinking.key_there start ws v.seen (owners_in vs) o.sound o.walks o.dealt kn k some rc.1.0 j rc.0 rc.1.1 free a i.mine key e (omega arith) ∙ key in
      let f1 : Fits start xs v = others v f in
      let f2 : Fits start xs (saw lw (suc a) v) = fits_saw start xs v f1 lw (suc a) part (omega arith) walks.wide link_here (λ b lt off q. absurd (omega arith)) in
      let f3 : Fits start xs (found k e k (saw lw (suc a) v)) = fits_found start xs (saw lw (suc a) v) k e k walks f2 part some (omega arith) (inr (a, refl, led_new)) there in
      let f4 = fits_placed start xs (found k e k (saw lw (suc a) v)) f3 k part (touched_has k e v.touched) in
      let few : length v.nodes ≤ v.part = f.few in
      let ln : length v.nodes ≡ suc (length r) = ap length is in
      let tail : without_last v.nodes ≡ r = ap without_last is in
      let lt : length (without_last v.nodes) ≡ length r = ap length tail in
      let all : Each (NodesIn xs) r = each_tail (NodesIn xs) (a, k) r (subst (Each (NodesIn xs)) is f1.filled) in
      let own : Fits start xs w = fits_nodes start xs (record (found k e k (saw lw (suc a) v)) { placed = v.placed ++ k ∷ [] }) f4 (without_last v.nodes) part (subst (Each (NodesIn xs)) (sym tail) all) (omega arith) in
      let less : (b : ℕ) → owners_in vs b ≡ owners_in (set vs id w) b + cond (eqb a b) 1 0 = λ b. (
      let t = sum-set (λ z. firsts b z.nodes) vs id v w me in
      let p : firsts b v.nodes ≡ cond (eqb a b) 1 0 + firsts b r = ap (firsts b) is ∙ firsts-cons b (a, k) r in
      let q : firsts b (without_last v.nodes) ≡ firsts b r = ap (firsts b) tail in omega arith) in
      let more : (b : ℕ) → placings (set vs id w) b ≡ placings vs b + cond (eqb k b) 1 0 = λ b. (
      let t = sum-set (λ z. times b z.placed) vs id v w me in
      let p = times-append b v.placed (k ∷ []) in omega arith) in
      let now : TouchRuleHolds start seats xs (set vs id w) =
      assembled xs w refl walks
      (TouchLinking.dealt_after start ws v.seen (owners_in vs) o.sound o.walks o.dealt kn k some rc.1.0 j rc.0 rc.1.1 free a i.mine key (owners_in (set vs id w)) less)
      (TouchLinking.origin_after start ws v.seen (owners_in vs) o.sound o.walks o.dealt kn k some rc.1.0 j rc.0 rc.1.1 free a i.mine key (placings vs) (placings (set vs id w)) o.origin more)
      (λ b z ne at_b. others z (o.each b z at_b))
      own
      (let c : drawn start ws ≤ start.nodes + sum_by spent vs = o.counter in
      let q = TouchLinking.count start ws v.seen (owners_in vs) o.sound o.walks o.dealt kn k some rc.1.0 j rc.0 rc.1.1 free a i.mine key in
      let t = sum-kept spent vs id v w me refl in omega arith) in
      let R : ℕ → Type 0 = λ d. TouchRuleHolds start seats (set ws d (suc a)) (set vs id (hung k d a e v)) in
      subst R (sym here) now
