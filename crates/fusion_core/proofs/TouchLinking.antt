-- A filled node of a seat is linked at the end of its key's chain.
use Rattle.std.proofs.Common.{◌≡◌, ◌≢◌, ℕ, suc, ◌+◌, ◌*◌, ◌^◌, ◌<◌, ◌≤◌, eqb, cond, List, [], ◌∷◌, ◌++◌, length, set, get_or, refl, sym, ap, ◌∙◌, arith, inl, inr, subst}
use Rattle.std.specs.Prelude.{◌⊎◌}
use Rattle.std.proofs.lemmas.Bool.{cases_eq}
use Rattle.std.proofs.lemmas.List.{get_or-set_same, get_or-set_other, length-set}
use Rattle.spatial_hash.specs.Hash.{home}
use Rattle.spatial_hash.specs.Table.{Table, entries_in, key_word, link_word}
use Rattle.spatial_hash.specs.Sound.{IsSound, IsStep, Leads, EndsAt}
use Rattle.spatial_hash.proofs.Homes.{home_low}
use Rattle.spatial_hash.proofs.Extending.{leads_more, same_chain}
use Rattle.spatial_hash.proofs.Chains.{few_below, once_on, step_on}
use Rattle.fusion_core.specs.TouchSeats.{SeatState}
use Rattle.fusion_core.specs.TouchWords.{shown, counter_at, drawn, IsLed, IsOnWalk, Passes, LeadsPast}
use Rattle.fusion_core.specs.TouchRule.{IsWalked, IsDealt, IsPlaced, Fits}
use Rattle.fusion_core.proofs.TouchPairs.{test_yes, test_no}
use Rattle.fusion_core.proofs.TouchGrowing.{Grows, led, led_last, on_walk, walk_low, leads_grown, ends_grown, walked_grown, fits_grown}
use Rattle.fusion_core.proofs.TouchSeeing.{Known, Nowhere, nowhere_end, sees_leads}

-- the chain of a bucket that was seen to its end
pub chain_end : (start : Table) (ws us : List ℕ) (k h : ℕ) (vs : List ℕ) (l : ℕ) → IsWalked start ws → Known start ws us → h < start.buckets → LeadsPast (shown start us) k h vs l → link_word (shown start ws) l ≡ 0
    → EndsAt (shown start ws) h l × (l < start.buckets + start.nodes)
chain_end start ws us k h vs l w known lh sees z =
    let at = w.ends h lh in
    let o = sees_leads start ws us w known k h vs h l (omega arith) sees at.1.over at.0 at.1.leads at.1.none in
    let n : length at.1.over ≡ length vs + length o.0 = o.1 in
    let f : length at.1.over ≤ start.nodes = at.1.few in
    (record { over = vs; leads = o.3; none = z; few = omega arith }, o.4)

module _ (start : Table) (ws us : List ℕ) (owners : ℕ → ℕ) (s : IsSound start) (w : IsWalked start ws) (dealt : IsDealt start ws owners) (known : Known start ws us) (k : ℕ) (some : 0 < k) (vs : List ℕ) (l : ℕ) (pass : Passes (shown start us) k (home start.buckets k) 4) (sees : LeadsPast (shown start us) k (home start.buckets k) vs l) (free : link_word (shown start ws) l ≡ 0) (n : ℕ) (mine : 0 < owners n) (stored : get_or ws (4 * start.buckets + n) 0 ≡ k) where
  abbrev h : ℕ
  h = home start.buckets k

  abbrev at : ℕ
  at = 4 * start.buckets + start.nodes + l

  abbrev after : List ℕ
  after = set ws at (suc n)

  lh : h < start.buckets
  lh = home_low start.buckets k s.some_buckets

  pub nowhere : Nowhere start ws k
  nowhere = nowhere_end start ws us owners k some w dealt known lh vs l pass sees free

  pub end : EndsAt (shown start ws) h l
  end = (chain_end start ws us k h vs l w known lh sees free).0

  pub low : l < start.buckets + start.nodes
  low = (chain_end start ws us k h vs l w known lh sees free).1

  abbrev spare : (n < start.nodes) × (n < drawn start ws) × (start.linked ≤ n) × (IsLed (shown start ws) n → ⊥)
  spare = dealt.spare n mine

  -- link l is the bucket's own, or that of a node that is led to
  last : (h ≡ l) ⊎ ((m : ℕ) × (l ≡ start.buckets + m) × (m < start.nodes) × IsLed (shown start ws) m)
  last = let x = lh in led_last (shown start ws) h end.over h l (omega arith) end.leads

  inside : at < length ws
  inside = let x = low in let q : length ws ≡ 5 * start.buckets + 2 * start.nodes + 1 = w.wide in omega arith

  pub link_here : link_word (shown start after) l ≡ suc n
  link_here = get_or-set_same ws at (suc n) 0 inside

  link_there : (j : ℕ) → j ≢ l → link_word (shown start after) j ≡ link_word (shown start ws) j
  link_there j ne = get_or-set_other ws at (4 * start.buckets + start.nodes + j) (suc n) 0 (λ q. ne (omega arith))

  pub key_there : (d : ℕ) → d < entries_in start → get_or after d 0 ≡ get_or ws d 0
  key_there d lt = get_or-set_other ws at d (suc n) 0 (λ q. absurd (omega arith))

  node : (m : ℕ) → m < start.nodes → get_or after (4 * start.buckets + m) 0 ≡ get_or ws (4 * start.buckets + m) 0
  node m lt = key_there (4 * start.buckets + m) (omega arith)

  pub count : drawn start after ≡ drawn start ws
  count = let x = low in get_or-set_other ws at (counter_at start) (suc n) 0 (λ q. absurd (omega arith))

  pub grows : Grows start ws after
  grows = record {
    wide = length-set ws at (suc n);
    links = λ j lt f. link_there j (λ q. (let z : link_word (shown start ws) j ≡ 0 = ap (link_word (shown start ws)) q ∙ free in absurd (omega arith)));
    keys = λ d on f. key_there d (walk_low start ws d w on);
    counter = (let c : drawn start after ≡ drawn start ws = count in omega arith);
  }

  led_cases : (m : ℕ) → IsLed (shown start after) m → IsLed (shown start ws) m ⊎ (m ≡ n)
  led_cases m y =
      elim (cases_eq y.0 l) [
        | inl q ↦ inr (let a : suc n ≡ suc m = sym link_here ∙ ap (link_word (shown start after)) (sym q) ∙ y.2 in omega arith)
        | inr ne ↦ inl (y.0, y.1, sym (link_there y.0 ne) ∙ y.2)
      ]

  pub led_new : IsLed (shown start after) n
  led_new = (l, low, link_here)

  walk_cases : (d : ℕ) → IsOnWalk (shown start after) d → IsOnWalk (shown start ws) d ⊎ (d ≡ 4 * start.buckets + n)
  walk_cases d (inl lt) = inl (inl lt)
  walk_cases d (inr m) = elim (led_cases m.0 m.2) [
    | inl y ↦ inl (inr (m.0, m.1, y))
    | inr q ↦ inr (m.1 ∙ ap (λ (x : ℕ). 4 * start.buckets + x) q)
  ]

  key_n : get_or after (4 * start.buckets + n) 0 ≡ k
  key_n = node n spare.0 ∙ stored

  -- ---- the chain

  none_after : link_word (shown start after) (start.buckets + n) ≡ 0
  none_after = link_there (start.buckets + n) (λ q. elim last [
    | inl e ↦ (let x = lh in absurd (omega arith))
    | inr m ↦ (let e : l ≡ start.buckets + m.0 = m.1 in let same : m.0 ≡ n = omega arith in spare.3 (subst (IsLed (shown start ws)) same m.3))
  ]) ∙ w.still n spare.0 spare.3

  new_step : IsStep (shown start after) h l n
  new_step = record { link = link_here; low = spare.0; filled = (let q = key_n in let f : 0 < get_or after (4 * start.buckets + n) 0 = omega arith in f); at_home = ap (home start.buckets) key_n }

  new_leads : Leads (shown start after) h h (end.over ++ n ∷ []) (start.buckets + n)
  new_leads = let x = lh in leads_more (shown start after) h end.over h l n (leads_grown start ws after grows h end.over h l (omega arith) end.leads) new_step

  new_end : EndsAt (shown start after) h (start.buckets + n)
  new_end = record {
    over = end.over ++ n ∷ [];
    leads = new_leads;
    none = none_after;
    few = few_below start.nodes (end.over ++ n ∷ []) (once_on (shown start after) h (end.over ++ n ∷ []) h (start.buckets + n) new_leads none_after)
        (λ x a. (step_on (shown start after) h (end.over ++ n ∷ []) h (start.buckets + n) x new_leads a).0);
  }

  ended : (g e : ℕ) → g < start.buckets → EndsAt (shown start ws) g e → (m : ℕ) × EndsAt (shown start after) g m
  ended g e lt r =
      elim (cases_eq e l) [
        | inl q ↦ (
            let P : ℕ → Type 0 = EndsAt (shown start ws) g in
            let hg : h ≡ g = same_chain (shown start ws) h g l lh lt end (subst P q r) in
            let Q : ℕ → Type 0 = λ x. EndsAt (shown start after) x (start.buckets + n) in
            (start.buckets + n, subst Q hg new_end))
        | inr ne ↦ (e, ends_grown start ws after grows g e lt r (link_there e ne ∙ r.none))
      ]

  -- ---- the words

  fulls : (g : ℕ) → g < start.buckets → 0 < link_word (shown start after) g → 0 < get_or after (4 * g + 3) 0
  fulls g lt f =
      let same : get_or after (4 * g + 3) 0 ≡ get_or ws (4 * g + 3) 0 = key_there (4 * g + 3) (omega arith) in
      let p = pass 3 (omega arith) in
      let lx = lh in
      let p0 : 0 < get_or us (4 * h + 3) 0 = p.0 in
      let b : get_or ws (4 * h + 3) 0 ≡ get_or us (4 * h + 3) 0 = known (4 * h + 3) (omega arith) p.0 in
      elim (cases_eq g l) [
        | inl q ↦ elim last [
          | inl e ↦ (let hg : h ≡ g = e ∙ sym q in let c : get_or ws (4 * h + 3) 0 ≡ get_or ws (4 * g + 3) 0 = ap (λ (x : ℕ). get_or ws (4 * x + 3) 0) hg in omega arith)
          | inr m ↦ (let e : l ≡ start.buckets + m.0 = m.1 in absurd (omega arith))
        ]
        | inr ne ↦ (let e : link_word (shown start after) g ≡ link_word (shown start ws) g = link_there g ne in let c : 0 < get_or ws (4 * g + 3) 0 = w.full g lt (omega arith) in omega arith)
      ]

  differs : (d c : ℕ) → IsOnWalk (shown start after) d → IsOnWalk (shown start after) c → 0 < get_or after d 0 → get_or after d 0 ≡ get_or after c 0 → d ≡ c
  differs d c od oc f same =
      let isn : get_or ws (4 * start.buckets + n) 0 ≡ k = stored in
      elim (walk_cases d od) [
        | inl wd ↦ (
            let kd : get_or after d 0 ≡ get_or ws d 0 = key_there d (walk_low start ws d w wd) in
            elim (walk_cases c oc) [
              | inl wc ↦ (let kc : get_or after c 0 ≡ get_or ws c 0 = key_there c (walk_low start ws c w wc) in w.differ d c wd wc (omega arith) (sym kd ∙ same ∙ kc))
              | inr ce ↦ absurd (nowhere d wd (sym kd ∙ same ∙ ap (λ (x : ℕ). get_or after x 0) ce ∙ key_n))
            ])
        | inr de ↦ elim (walk_cases c oc) [
          | inl wc ↦ (let kc : get_or after c 0 ≡ get_or ws c 0 = key_there c (walk_low start ws c w wc) in absurd (nowhere c wc (sym kc ∙ sym same ∙ ap (λ (x : ℕ). get_or after x 0) de ∙ key_n)))
          | inr ce ↦ de ∙ sym ce
        ]
      ]

  stills : (m : ℕ) → m < start.nodes → (IsLed (shown start after) m → ⊥) → link_word (shown start after) (start.buckets + m) ≡ 0
  stills m lt off = link_there (start.buckets + m) (λ q. elim last [
    | inl e ↦ (let x = lh in absurd (omega arith))
    | inr y ↦ (let e : l ≡ start.buckets + y.0 = y.1 in let same : y.0 ≡ m = omega arith in off (led start ws after grows m (subst (IsLed (shown start ws)) same y.3)))
  ]) ∙ w.still m lt (λ y. off (led start ws after grows m y))

  pub walks : IsWalked start after
  walks = record {
    wide = length-set ws at (suc n) ∙ w.wide;
    named = λ d lt. (let q : get_or after d 0 ≡ get_or ws d 0 = key_there d lt in let p : get_or ws d 0 ≤ 2 ^ 48 = w.named d lt in omega arith);
    low = λ j lt. elim (cases_eq j l) [
      | inl q ↦ (let e : link_word (shown start after) j ≡ suc n = ap (link_word (shown start after)) q ∙ link_here in let m : n < start.nodes = spare.0 in omega arith)
      | inr ne ↦ (let e : link_word (shown start after) j ≡ link_word (shown start ws) j = link_there j ne in let m : link_word (shown start ws) j ≤ start.nodes = w.low j lt in omega arith)
    ];
    at_home = λ g a lt la f. (let q : get_or after (4 * g + a) 0 ≡ get_or ws (4 * g + a) 0 = key_there (4 * g + a) (omega arith) in ap (home start.buckets) q ∙ w.at_home g a lt la (rw q at f));
    prefix = λ g a lt la f. (
        let q : get_or after (4 * g + suc a) 0 ≡ get_or ws (4 * g + suc a) 0 = key_there (4 * g + suc a) (omega arith) in
        let r : get_or after (4 * g + a) 0 ≡ get_or ws (4 * g + a) 0 = key_there (4 * g + a) (omega arith) in
        let p : 0 < get_or ws (4 * g + a) 0 = w.prefix g a lt la (rw q at f) in omega arith);
    full = fulls;
    ends = λ g lt. ended g (w.ends g lt).0 lt (w.ends g lt).1;
    still = stills;
    differ = differs;
    kept = λ d lt f. key_there d lt ∙ w.kept d lt f;
  }

  pub dealt_after : (now : ℕ → ℕ) → ((m : ℕ) → owners m ≡ now m + cond (eqb n m) 1 0) → IsDealt start after now
  dealt_after now is =
      let one : now n ≡ 0 = (let a = is n in let b = test_yes n n refl in let c : owners n ≤ 1 = dealt.once n in omega arith) in
      record {
        grown = rw count dealt.grown;
        fresh = λ m lt d. (
            let d2 : drawn start ws ≤ m = rw count at d in
            let o = dealt.fresh m lt d2 in
            let z : owners m ≡ 0 = o.2 in
            let e = is m in
            let low-n : n < drawn start ws = spare.1 in
            ((λ y. elim (led_cases m y) [ inl x ↦ o.0 x | inr q ↦ absurd (omega arith) ]), node m lt ∙ o.1, omega arith));
        spare = λ m p. (
            let e = is m in
            let o = dealt.spare m (omega arith) in
            let ne : m ≢ n = λ q. (let z : now m ≡ 0 = ap now q ∙ one in absurd (omega arith)) in
            (o.0, rw count o.1, o.2, λ y. elim (led_cases m y) [ inl x ↦ o.3 x | inr q ↦ ne q ]));
        once = λ m. (let e = is m in let o : owners m ≤ 1 = dealt.once m in omega arith);
        walked = λ m lt d z. elim (cases_eq n m) [
          | inl q ↦ (
              let P : ℕ → Type 0 = λ y. (0 < y) × ((ns : List ℕ) × Leads (shown start after) (home start.buckets y) (home start.buckets y) ns (start.buckets + n)) in
              let R : P k = (some, (end.over ++ n ∷ [], new_leads)) in
              let Q : ℕ → Type 0 = λ m. (0 < get_or after (4 * start.buckets + m) 0)
              × ((ns : List ℕ) × Leads (shown start after) (home start.buckets (get_or after (4 * start.buckets + m) 0)) (home start.buckets (get_or after (4 * start.buckets + m) 0)) ns (start.buckets + m)) in
              subst Q q (subst P (sym key_n) R))
          | inr ne ↦ (
              let e = is m in
              let t = test_no n m ne in
              walked_grown start ws after grows m (get_or ws (4 * start.buckets + m) 0) refl (home_low start.buckets (get_or ws (4 * start.buckets + m) 0) s.some_buckets) (dealt.walked m lt (rw count at d) (omega arith)))
        ];
      }

  pub was_free : key_word start (4 * start.buckets + n) ≡ 0
  was_free = (s.free n spare.2 spare.0).0

  pub origin_after : (placed now : ℕ → ℕ) → IsPlaced start ws placed → ((x : ℕ) → now x ≡ placed x + cond (eqb k x) 1 0) → IsPlaced start after now
  origin_after placed now o is =
      let none : placed k ≡ 0 = elim (cases_eq (placed k) 0) [ inl z ↦ z | inr ne ↦ (let t = o.there k (omega arith) in absurd (nowhere t.0 t.2 t.3)) ] in
      let here : now k ≡ 1 = is k ∙ (let y = test_yes k k refl in omega arith) in
      record {
        once = λ x. elim (cases_eq k x) [
          | inl q ↦ (let m : now x ≡ 1 = ap now (sym q) ∙ here in omega arith)
          | inr ne ↦ (let z = test_no k x ne in let y = is x in let p : placed x ≤ 1 = o.once x in omega arith)
        ];
        there = λ x p. elim (cases_eq k x) [
          | inl q ↦ (let ln : n < start.nodes = spare.0 in (4 * start.buckets + n, omega arith, inr (n, refl, led_new), key_n ∙ q, was_free, omega arith))
          | inr ne ↦ (
              let z = test_no k x ne in
              let y = is x in
              let t = o.there x (omega arith) in
              (t.0, t.1, on_walk start ws after grows t.0 t.2, key_there t.0 t.1 ∙ t.3, t.4, t.5))
        ];
        back = λ d lt on f z. (
            let q : get_or after d 0 ≡ get_or ws d 0 = key_there d lt in
            let m : now (get_or after d 0) ≡ placed (get_or ws d 0) + cond (eqb k (get_or ws d 0)) 1 0 = ap now q ∙ is (get_or ws d 0) in
            elim (walk_cases d on) [
              | inl wd ↦ (let p : 0 < placed (get_or ws d 0) = o.back d lt wd (omega arith) z in omega arith)
              | inr de ↦ (let e : get_or after d 0 ≡ k = ap (λ (x : ℕ). get_or after x 0) de ∙ key_n in let c : now (get_or after d 0) ≡ 1 = ap now e ∙ here in omega arith)
            ]);
      }

  pub others : (v : SeatState) → Fits start ws v → Fits start after v
  others v f = fits_grown start ws after grows v f
      (λ a lt p. get_or-set_other ws at a (suc n) 0 (λ q. (let e : get_or ws a 0 ≡ get_or v.seen a 0 = f.seen a lt p in let z : get_or ws a 0 ≡ 0 = ap (λ (x : ℕ). get_or ws x 0) q ∙ free in absurd (omega arith))))
      (λ m x lt p. node m lt)
