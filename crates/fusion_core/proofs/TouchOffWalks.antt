-- Steps that no walk sees: a node is drawn, and a key is stored in an unlinked node.
use Rattle.std.proofs.Common.{◌≡◌, ◌≢◌, ℕ, suc, ◌+◌, ◌*◌, ◌^◌, ◌<◌, ◌≤◌, eqb, cond, Bool, true, false, ◌&&◌, List, [], ◌∷◌, length, set, get_or, refl, sym, ap, ◌∙◌, arith, inl, inr, subst}
use Rattle.std.proofs.lemmas.Bool.{cases_eq}
use Rattle.std.proofs.lemmas.List.{get_or-set_same, get_or-set_other, length-set}
use Rattle.spatial_hash.specs.Hash.{home}
use Rattle.spatial_hash.specs.Table.{Table, entries_in, key_word, link_word}
use Rattle.spatial_hash.specs.Sound.{IsSound, Leads}
use Rattle.spatial_hash.proofs.Homes.{home_low}
use Rattle.fusion_core.specs.TouchSeats.{SeatState}
use Rattle.fusion_core.specs.TouchCounts.{pairs_at, firsts}
use Rattle.fusion_core.specs.TouchWords.{shown, counter_at, drawn, IsLed, IsOnWalk}
use Rattle.fusion_core.specs.TouchRule.{IsWalked, IsDealt, IsPlaced, Fits}
use Rattle.fusion_core.proofs.TouchSums.{pairs-cons, firsts-cons}
use Rattle.fusion_core.proofs.TouchPairs.{test_yes, test_no}
use Rattle.fusion_core.proofs.TouchGrowing.{Grows, led, on_walk, walk_low, ends_grown, end_low, walked_grown, fits_grown}

-- the links and the keys on the walks are the same
pub record Alike (start : Table) (ws xs : List ℕ) : Type 0 where
  pub wide : length xs ≡ length ws
  pub links : (j : ℕ) → j < start.buckets + start.nodes → link_word (shown start xs) j ≡ link_word (shown start ws) j
  pub keys : (d : ℕ) → IsOnWalk (shown start ws) d → get_or xs d 0 ≡ get_or ws d 0
  pub counter : drawn start ws ≤ drawn start xs
  pub named : (d : ℕ) → d < entries_in start → get_or xs d 0 ≤ 2 ^ 48
  pub kept : (d : ℕ) → d < entries_in start → 0 < key_word start d → get_or xs d 0 ≡ get_or ws d 0

module _ (start : Table) (ws xs : List ℕ) (w : IsWalked start ws) (a : Alike start ws xs) where
  pub grows : Grows start ws xs
  grows = record { wide = a.wide; links = λ j lt f. a.links j lt; keys = λ d on f. a.keys d on; counter = a.counter }

  led_back : (n : ℕ) → IsLed (shown start xs) n → IsLed (shown start ws) n
  led_back n l = (l.0, l.1, sym (a.links l.0 l.1) ∙ l.2)

  walk_back : (d : ℕ) → IsOnWalk (shown start xs) d → IsOnWalk (shown start ws) d
  walk_back d (inl lt) = inl lt
  walk_back d (inr m) = inr (m.0, m.1, led_back m.0 m.2)

  bucket : (h i : ℕ) → h < start.buckets → i < 4 → get_or xs (4 * h + i) 0 ≡ get_or ws (4 * h + i) 0
  bucket h i lt li = a.keys (4 * h + i) (inl (omega arith))

  pub walks_alike : IsWalked start xs
  walks_alike = record {
    wide = a.wide ∙ w.wide;
    named = a.named;
    low = λ j lt. (let e : link_word (shown start xs) j ≡ link_word (shown start ws) j = a.links j lt in let p : link_word (shown start ws) j ≤ start.nodes = w.low j lt in omega arith);
    at_home = λ h i lt li f. (let q = bucket h i lt li in ap (home start.buckets) q ∙ w.at_home h i lt li (rw q at f));
    prefix = λ h i lt li f. (let q = bucket h (suc i) lt (omega arith) in let r = bucket h i lt (omega arith) in let p : 0 < get_or ws (4 * h + i) 0 = w.prefix h i lt li (rw q at f) in omega arith);
    full = λ h lt f. (
        let e : link_word (shown start xs) h ≡ link_word (shown start ws) h = a.links h (omega arith) in
        let r = bucket h 3 lt (omega arith) in let p : 0 < get_or ws (4 * h + 3) 0 = w.full h lt (omega arith) in omega arith);
    ends = λ h lt. (let o = w.ends h lt in (o.0, ends_grown start ws xs grows h o.0 lt o.1 (a.links o.0 (end_low start ws h o.0 lt o.1) ∙ o.1.none)));
    still = λ n lt off. a.links (start.buckets + n) (omega arith) ∙ w.still n lt (λ y. off (led start ws xs grows n y));
    differ = λ d e od oe f same. (
        let kd = a.keys d (walk_back d od) in let ke = a.keys e (walk_back e oe) in
        w.differ d e (walk_back d od) (walk_back e oe) (rw kd at f) (sym kd ∙ same ∙ ke));
    kept = λ d lt f. a.kept d lt f ∙ w.kept d lt f;
  }

  pub origin_alike : (placed : ℕ → ℕ) → IsPlaced start ws placed → IsPlaced start xs placed
  origin_alike placed o = record {
    once = o.once;
    there = λ x p. (let t = o.there x p in (t.0, t.1, on_walk start ws xs grows t.0 t.2, a.keys t.0 t.2 ∙ t.3, t.4, t.5));
    back = λ d lt on f z. (let q = a.keys d (walk_back d on) in let p : 0 < placed (get_or ws d 0) = o.back d lt (walk_back d on) (rw q at f) z in rw q p);
  }

-- ---- the counter moves

module _ (start : Table) (ws : List ℕ) (owners : ℕ → ℕ) (s : IsSound start) (w : IsWalked start ws) (dealt : IsDealt start ws owners) (x : ℕ) (up : drawn start ws ≤ x) where
  abbrev counted : List ℕ
  counted = set ws (counter_at start) x

  words : (d : ℕ) → d < counter_at start → get_or counted d 0 ≡ get_or ws d 0
  words d lt = get_or-set_other ws (counter_at start) d x 0 (λ q. absurd (omega arith))

  pub count_is : drawn start counted ≡ x
  count_is = get_or-set_same ws (counter_at start) x 0 (let q : length ws ≡ counter_at start + 1 = w.wide in omega arith)

  pub node_key : (n : ℕ) → n < start.nodes → get_or counted (4 * start.buckets + n) 0 ≡ get_or ws (4 * start.buckets + n) 0
  node_key n lt = words (4 * start.buckets + n) (omega arith)

  pub alike_counted : Alike start ws counted
  alike_counted = record {
    wide = length-set ws (counter_at start) x;
    links = λ j lt. words (4 * start.buckets + start.nodes + j) (omega arith);
    keys = λ d on. (let l = walk_low start ws d w on in words d (omega arith));
    counter = (let c = count_is in omega arith);
    named = λ d lt. (let q = words d (omega arith) in let p : get_or ws d 0 ≤ 2 ^ 48 = w.named d lt in omega arith);
    kept = λ d lt f. words d (omega arith);
  }

  counted_back : (n : ℕ) → IsLed (shown start counted) n → IsLed (shown start ws) n
  counted_back n l = led_back start ws counted w alike_counted n l

  walked_counted : (n : ℕ) → n < start.nodes → n < drawn start ws → owners n ≡ 0
      → (0 < get_or counted (4 * start.buckets + n) 0) × ((ns : List ℕ) × Leads (shown start counted) (home start.buckets (get_or counted (4 * start.buckets + n) 0)) (home start.buckets (get_or counted (4 * start.buckets + n) 0)) ns (start.buckets + n))
  walked_counted n lt d z =
      walked_grown start ws counted (grows start ws counted w alike_counted) n (get_or ws (4 * start.buckets + n) 0) refl (home_low start.buckets (get_or ws (4 * start.buckets + n) 0) s.some_buckets) (dealt.walked n lt d z)

  -- no node is left
  pub dealt_past : start.nodes ≤ drawn start ws → IsDealt start counted owners
  dealt_past past =
      let c = count_is in
      record {
        grown = (let g : start.linked ≤ drawn start ws = dealt.grown in omega arith);
        fresh = λ n lt d. absurd (omega arith);
        spare = λ n p. (let o = dealt.spare n p in let l : n < drawn start ws = o.1 in (o.0, omega arith, o.2, λ y. o.3 (counted_back n y)));
        once = dealt.once;
        walked = λ n lt d z. walked_counted n lt (omega arith) z;
      }

  -- a seat has the next node
  pub dealt_more : (now : ℕ → ℕ) → drawn start ws < start.nodes → x ≡ drawn start ws + 1 → ((n : ℕ) → now n ≡ owners n + cond (eqb (drawn start ws) n) 1 0) → IsDealt start counted now
  dealt_more now low one is =
      let c = count_is in
      let at : ℕ = drawn start ws in
      record {
        grown = (let g : start.linked ≤ drawn start ws = dealt.grown in omega arith);
        fresh = λ n lt d. (
            let o = dealt.fresh n lt (omega arith) in
            let z : owners n ≡ 0 = o.2 in
            let e = is n in
            let t = test_no at n (λ q. absurd (omega arith)) in
            ((λ y. o.0 (counted_back n y)), node_key n lt ∙ o.1, omega arith));
        spare = λ n p. elim (cases_eq at n) [
          | inl q ↦ (let o = dealt.fresh n (omega arith) (omega arith) in let g : start.linked ≤ drawn start ws = dealt.grown in (omega arith, omega arith, omega arith, λ y. o.0 (counted_back n y)))
          | inr ne ↦ (let e = is n in let t = test_no at n ne in let o = dealt.spare n (omega arith) in let l : n < drawn start ws = o.1 in (o.0, omega arith, o.2, λ y. o.3 (counted_back n y)))
        ];
        once = λ n. elim (cases_eq at n) [
          | inl q ↦ (let e = is n in let z : owners n ≡ 0 = (dealt.fresh n (omega arith) (omega arith)).2 in let t = test_yes at n q in omega arith)
          | inr ne ↦ (let e = is n in let t = test_no at n ne in let o : owners n ≤ 1 = dealt.once n in omega arith)
        ];
        walked = λ n lt d z. elim (cases_eq at n) [
          | inl q ↦ (let e = is n in let t = test_yes at n q in absurd (omega arith))
          | inr ne ↦ (let e = is n in let t = test_no at n ne in walked_counted n lt (omega arith) (omega arith))
        ];
      }

  pub others_counted : (v : SeatState) → Fits start ws v → Fits start counted v
  others_counted v f = fits_grown start ws counted (grows start ws counted w alike_counted) v f (λ a lt p. words a lt) (λ n y lt p. node_key n lt)

-- ---- a key in an unlinked node

both_tests : (a b : Bool) → ◌≤◌ (cond (a && b) 1 0) (cond a 1 0)
both_tests true true = omega arith
both_tests true false = omega arith
both_tests false b = omega arith

pub holds_firsts : (x y : ℕ) (l : List (ℕ × ℕ)) → pairs_at x y l ≤ firsts x l
holds_firsts x y [] = omega arith
holds_firsts x y (p ∷ ps) = let r = holds_firsts x y ps in let t = both_tests (eqb p.0 x) (eqb p.1 y) in omega (arith, pairs-cons x y p ps, firsts-cons x p ps)

module _ (start : Table) (ws : List ℕ) (owners : ℕ → ℕ) (s : IsSound start) (w : IsWalked start ws) (dealt : IsDealt start ws owners) (n x : ℕ) (mine : 0 < owners n) (named : x ≤ 2 ^ 48) where
  abbrev filled : List ℕ
  filled = set ws (4 * start.buckets + n) x

  abbrev spare : (n < start.nodes) × (n < drawn start ws) × (start.linked ≤ n) × (IsLed (shown start ws) n → ⊥)
  spare = dealt.spare n mine

  else : (d : ℕ) → d ≢ 4 * start.buckets + n → get_or filled d 0 ≡ get_or ws d 0
  else d ne = get_or-set_other ws (4 * start.buckets + n) d x 0 ne

  pub filled_here : get_or filled (4 * start.buckets + n) 0 ≡ x
  filled_here = get_or-set_same ws (4 * start.buckets + n) x 0 (let q : length ws ≡ counter_at start + 1 = w.wide in let l : n < start.nodes = spare.0 in omega arith)

  off_it : (d : ℕ) → IsOnWalk (shown start ws) d → d ≢ 4 * start.buckets + n
  off_it d (inl lt) q = absurd (omega arith)
  off_it d (inr m) q = let e : d ≡ 4 * start.buckets + m.0 = m.1 in let same : m.0 ≡ n = omega arith in spare.3 (subst (IsLed (shown start ws)) same m.2)

  pub alike_filled : Alike start ws filled
  alike_filled =
      let l : n < start.nodes = spare.0 in
      record {
        wide = length-set ws (4 * start.buckets + n) x;
        links = λ j lt. else (4 * start.buckets + start.nodes + j) (λ q. absurd (omega arith));
        keys = λ d on. else d (off_it d on);
        counter = (let c : drawn start filled ≡ drawn start ws = else (counter_at start) (λ q. absurd (omega arith)) in omega arith);
        named = λ d lt. elim (cases_eq d (4 * start.buckets + n)) [
          | inl q ↦ (let e : get_or filled d 0 ≡ x = ap (λ (a : ℕ). get_or filled a 0) q ∙ filled_here in omega arith)
          | inr ne ↦ (let e : get_or filled d 0 ≡ get_or ws d 0 = else d ne in let p : get_or ws d 0 ≤ 2 ^ 48 = w.named d lt in omega arith)
        ];
        kept = λ d lt f. else d (λ q. (let z : key_word start (4 * start.buckets + n) ≡ 0 = (s.free n spare.2 l).0 in let e : key_word start d ≡ 0 = ap (key_word start) q ∙ z in absurd (omega arith)));
      }

  pub filled_count : drawn start filled ≡ drawn start ws
  filled_count = let l : n < start.nodes = spare.0 in else (counter_at start) (λ q. absurd (omega arith))

  pub dealt_filled : (now : ℕ → ℕ) → ((m : ℕ) → now m ≡ owners m) → IsDealt start filled now
  dealt_filled now is = record {
    grown = rw filled_count dealt.grown;
    fresh = λ m lt d. (
        let d2 : drawn start ws ≤ m = rw filled_count at d in
        let ln : n < drawn start ws = spare.1 in
        let o = dealt.fresh m lt d2 in ((λ y. o.0 (led_back start ws filled w alike_filled m y)), else (4 * start.buckets + m) (λ q. absurd (omega arith)) ∙ o.1, is m ∙ o.2));
    spare = λ m p. (let e = is m in let o = dealt.spare m (omega arith) in (o.0, rw filled_count o.1, o.2, λ y. o.3 (led_back start ws filled w alike_filled m y)));
    once = λ m. (let e = is m in let o : owners m ≤ 1 = dealt.once m in omega arith);
    walked = λ m lt d z. walked_grown start ws filled (grows start ws filled w alike_filled) m (get_or ws (4 * start.buckets + m) 0) refl (home_low start.buckets (get_or ws (4 * start.buckets + m) 0) s.some_buckets)
        (dealt.walked m lt (rw filled_count at d) (sym (is m) ∙ z));
  }

  pub others_filled : (v : SeatState) → firsts n v.nodes ≡ 0 → Fits start ws v → Fits start filled v
  others_filled v none f = fits_grown start ws filled (grows start ws filled w alike_filled) v f
      (λ a lt p. else a (λ q. (let z : get_or v.seen (4 * start.buckets + n) 0 ≡ 0 = f.blind n spare.0 spare.3 in let e : get_or v.seen a 0 ≡ 0 = ap (λ (b : ℕ). get_or v.seen b 0) q ∙ z in absurd (omega arith))))
      (λ m y lt p. else (4 * start.buckets + m) (λ q. (let same : m ≡ n = omega arith in let h = holds_firsts m y v.nodes in let e : firsts m v.nodes ≡ 0 = ap (λ (b : ℕ). firsts b v.nodes) same ∙ none in absurd (omega arith))))
