-- The next entry of a bucket, which is free, takes a key.
use Rattle.std.proofs.Common.{◌≡◌, ◌≢◌, ℕ, suc, ◌+◌, ◌*◌, ◌^◌, ◌<◌, ◌≤◌, eqb, cond, List, length, set, get_or, refl, sym, ap, ◌∙◌, arith, inl, inr}
use Rattle.std.proofs.lemmas.Bool.{cases_eq}
use Rattle.std.proofs.lemmas.List.{get_or-set_same, get_or-set_other, length-set}
use Rattle.spatial_hash.specs.Hash.{home}
use Rattle.spatial_hash.specs.Table.{Table, key_word, link_word}
use Rattle.spatial_hash.specs.Sound.{IsSound}
use Rattle.spatial_hash.proofs.Homes.{home_low}
use Rattle.fusion_core.specs.TouchSeats.{SeatState}
use Rattle.fusion_core.specs.TouchWords.{shown, counter_at, drawn, IsLed, IsOnWalk, Passes}
use Rattle.fusion_core.specs.TouchRule.{IsWalked, IsDealt, IsPlaced, Fits}
use Rattle.fusion_core.proofs.TouchPairs.{test_yes, test_no}
use Rattle.fusion_core.proofs.TouchGrowing.{Grows, led, on_walk, ends_grown, walked_grown, fits_grown}
use Rattle.fusion_core.proofs.TouchSeeing.{Known, Nowhere, nowhere_free}

module _ (start : Table) (ws us : List ℕ) (owners : ℕ → ℕ) (s : IsSound start) (w : IsWalked start ws) (dealt : IsDealt start ws owners) (known : Known start ws us) (k : ℕ) (some : 0 < k) (named : k ≤ 2 ^ 48) (i : ℕ) (li : i < 4) (pass : Passes (shown start us) k (home start.buckets k) i) (free : get_or ws (4 * home start.buckets k + i) 0 ≡ 0) where
  abbrev h : ℕ
  h = home start.buckets k

  abbrev e : ℕ
  e = 4 * home start.buckets k + i

  abbrev after : List ℕ
  after = set ws e k

  lh : h < start.buckets
  lh = home_low start.buckets k s.some_buckets

  pub nowhere : Nowhere start ws k
  nowhere = nowhere_free start ws us owners k some w dealt known lh i li pass free

  low : e < 4 * start.buckets
  low = let l = lh in omega arith

  inside : e < length ws
  inside = let l = low in let q : length ws ≡ 5 * start.buckets + 2 * start.nodes + 1 = w.wide in omega arith

  pub here : get_or after e 0 ≡ k
  here = get_or-set_same ws e k 0 inside

  pub there : (d : ℕ) → d ≢ e → get_or after d 0 ≡ get_or ws d 0
  there d ne = get_or-set_other ws e d k 0 ne

  links : (j : ℕ) → link_word (shown start after) j ≡ link_word (shown start ws) j
  links j = let l = low in there (4 * start.buckets + start.nodes + j) (λ q. absurd (omega arith))

  node : (n : ℕ) → get_or after (4 * start.buckets + n) 0 ≡ get_or ws (4 * start.buckets + n) 0
  node n = let l = low in there (4 * start.buckets + n) (λ q. absurd (omega arith))

  pub count : drawn start after ≡ drawn start ws
  count = let l = low in there (counter_at start) (λ q. absurd (omega arith))

  stays : (d : ℕ) → 0 < get_or ws d 0 → get_or after d 0 ≡ get_or ws d 0
  stays d f = there d (λ q. (let z : get_or ws d 0 ≡ 0 = ap (λ (x : ℕ). get_or ws x 0) q ∙ free in absurd (omega arith)))

  more : (d : ℕ) → 0 < get_or ws d 0 → 0 < get_or after d 0
  more d f = let q = stays d f in omega arith

  led_back : (n : ℕ) → IsLed (shown start after) n → IsLed (shown start ws) n
  led_back n l = (l.0, l.1, sym (links l.0) ∙ l.2)

  walk_back : (d : ℕ) → IsOnWalk (shown start after) d → IsOnWalk (shown start ws) d
  walk_back d (inl lt) = inl lt
  walk_back d (inr m) = inr (m.0, m.1, led_back m.0 m.2)

  pub grows : Grows start ws after
  grows = record {
    wide = length-set ws e k;
    links = λ j lt f. links j;
    keys = λ d on f. stays d f;
    counter = (let c : drawn start after ≡ drawn start ws = count in omega arith);
  }

  prefixed : (g a : ℕ) → g < start.buckets → a < 3 → 0 < get_or after (4 * g + suc a) 0 → 0 < get_or after (4 * g + a) 0
  prefixed g a lt la f =
      elim (cases_eq (4 * g + suc a) e) [
        | inl q ↦ (
            let gh : g ≡ h = omega arith in
            let ai : suc a ≡ i = omega arith in
            let p = pass a (omega arith) in
            let l = lh in
            let b : get_or ws (4 * h + a) 0 ≡ get_or us (4 * h + a) 0 = known (4 * h + a) (omega arith) p.0 in
            let p0 : 0 < get_or us (4 * h + a) 0 = p.0 in
            let f2 : 0 < get_or after (4 * h + a) 0 = more (4 * h + a) (omega arith) in
            rw gh f2)
        | inr ne ↦ more (4 * g + a) (w.prefix g a lt la (rw (there (4 * g + suc a) ne) at f))
      ]

  homed : (g a : ℕ) → g < start.buckets → a < 4 → 0 < get_or after (4 * g + a) 0 → home start.buckets (get_or after (4 * g + a) 0) ≡ g
  homed g a lt la f =
      elim (cases_eq (4 * g + a) e) [
        | inl q ↦ (let gh : h ≡ g = omega arith in ap (home start.buckets) (ap (λ (x : ℕ). get_or after x 0) q ∙ here) ∙ gh)
        | inr ne ↦ ap (home start.buckets) (there (4 * g + a) ne) ∙ w.at_home g a lt la (rw (there (4 * g + a) ne) at f)
      ]

  differs : (d c : ℕ) → IsOnWalk (shown start after) d → IsOnWalk (shown start after) c → 0 < get_or after d 0 → get_or after d 0 ≡ get_or after c 0 → d ≡ c
  differs d c od oc f same =
      elim (cases_eq d e) [
        | inl de ↦ elim (cases_eq c e) [
          | inl ce ↦ de ∙ sym ce
          | inr ce ↦ absurd (nowhere c (walk_back c oc) (sym (there c ce) ∙ sym same ∙ ap (λ (x : ℕ). get_or after x 0) de ∙ here))
        ]
        | inr de ↦ elim (cases_eq c e) [
          | inl ce ↦ absurd (nowhere d (walk_back d od) (sym (there d de) ∙ same ∙ ap (λ (x : ℕ). get_or after x 0) ce ∙ here))
          | inr ce ↦ w.differ d c (walk_back d od) (walk_back c oc) (rw (there d de) at f) (sym (there d de) ∙ same ∙ there c ce)
        ]
      ]

  pub was_free : key_word start e ≡ 0
  was_free = elim (cases_eq (key_word start e) 0) [
    | inl z ↦ z
    | inr ne ↦ (let l = low in let is : get_or ws e 0 ≡ key_word start e = w.kept e (omega arith) (omega arith) in absurd (omega arith))
  ]

  pub walks : IsWalked start after
  walks = record {
    wide = length-set ws e k ∙ w.wide;
    named = λ d l. elim (cases_eq d e) [
      | inl q ↦ (let x : get_or after d 0 ≡ k = ap (λ (x : ℕ). get_or after x 0) q ∙ here in omega arith)
      | inr ne ↦ (let x : get_or after d 0 ≡ get_or ws d 0 = there d ne in let p : get_or ws d 0 ≤ 2 ^ 48 = w.named d l in omega arith)
    ];
    low = λ j l. (let x = links j in let p : link_word (shown start ws) j ≤ start.nodes = w.low j l in omega arith);
    at_home = homed;
    prefix = prefixed;
    full = λ g lt f. more (4 * g + 3) (w.full g lt (rw (links g) at f));
    ends = λ g lt. ((w.ends g lt).0, ends_grown start ws after grows g (w.ends g lt).0 lt (w.ends g lt).1 (links (w.ends g lt).0 ∙ (w.ends g lt).1.none));
    still = λ n l no. links (start.buckets + n) ∙ w.still n l (λ y. no (led start ws after grows n y));
    differ = differs;
    kept = λ d l f. (let is : get_or ws d 0 ≡ key_word start d = w.kept d l f in stays d (omega arith) ∙ is);
  }

  pub dealt_after : IsDealt start after owners
  dealt_after = record {
    grown = rw count dealt.grown;
    fresh = λ n l d. (let o = dealt.fresh n l (rw count at d) in ((λ y. o.0 (led_back n y)), node n ∙ o.1, o.2));
    spare = λ n p. (let o = dealt.spare n p in (o.0, rw count o.1, o.2, λ y. o.3 (led_back n y)));
    once = dealt.once;
    walked = λ n l d z. walked_grown start ws after grows n (get_or ws (4 * start.buckets + n) 0) refl (home_low start.buckets (get_or ws (4 * start.buckets + n) 0) s.some_buckets) (dealt.walked n l (rw count at d) z);
  }

  pub origin_after : (placed now : ℕ → ℕ) → IsPlaced start ws placed → ((x : ℕ) → now x ≡ placed x + cond (eqb k x) 1 0) → IsPlaced start after now
  origin_after placed now o is =
      let none : placed k ≡ 0 = elim (cases_eq (placed k) 0) [ inl z ↦ z | inr ne ↦ (let t = o.there k (omega arith) in absurd (nowhere t.0 t.2 t.3)) ] in
      let mine : now k ≡ 1 = is k ∙ (let y = test_yes k k refl in omega arith) in
      record {
        once = λ x. elim (cases_eq k x) [
          | inl q ↦ (let m : now x ≡ 1 = ap now (sym q) ∙ mine in omega arith)
          | inr ne ↦ (let z = test_no k x ne in let y = is x in let p : placed x ≤ 1 = o.once x in omega arith)
        ];
        there = λ x p. elim (cases_eq k x) [
          | inl q ↦ (let l = low in (e, omega arith, inl low, here ∙ q, was_free, omega arith))
          | inr ne ↦ (
              let z = test_no k x ne in
              let y = is x in
              let t = o.there x (omega arith) in
              let d : get_or ws t.0 0 ≡ x = t.3 in
              let other : t.0 ≢ e = λ q. (let f : get_or ws t.0 0 ≡ 0 = ap (λ (a : ℕ). get_or ws a 0) q ∙ free in let z0 : 0 < x = t.5 in absurd (omega arith)) in
              (t.0, t.1, on_walk start ws after grows t.0 t.2, there t.0 other ∙ d, t.4, t.5))
        ];
        back = λ d l on f z. elim (cases_eq d e) [
          | inl q ↦ (let x : get_or after d 0 ≡ k = ap (λ (x : ℕ). get_or after x 0) q ∙ here in let m : now (get_or after d 0) ≡ 1 = ap now x ∙ mine in omega arith)
          | inr ne ↦ (
              let x : get_or after d 0 ≡ get_or ws d 0 = there d ne in
              let p : 0 < placed (get_or ws d 0) = o.back d l (walk_back d on) (omega arith) z in
              let m : now (get_or after d 0) ≡ placed (get_or ws d 0) + cond (eqb k (get_or ws d 0)) 1 0 = ap now x ∙ is (get_or ws d 0) in omega arith)
        ];
      }

  pub others : (v : SeatState) → Fits start ws v → Fits start after v
  others v f = fits_grown start ws after grows v f (λ a lt p. (let q : get_or ws a 0 ≡ get_or v.seen a 0 = f.seen a lt p in stays a (omega arith))) (λ n x l p. node n)
