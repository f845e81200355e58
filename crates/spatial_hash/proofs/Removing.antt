-- A key is removed: the last key of its walk moves to its entry, and the last node is unlinked.
use Rattle.std.proofs.Common.{◌≡◌, ◌≢◌, ℕ, suc, ◌+◌, ◌-◌, ◌*◌, ◌^◌, ◌<◌, ◌≤◌, List, [], ◌∷◌, ◌++◌, length, refl, sym, ap, ◌∙◌, arith, inl, inr, get_or, set, subst, length-append}
use Rattle.std.specs.Prelude.{◌⊎◌}
use Rattle.std.proofs.lemmas.Bool.{cases_eq, cases_lt}
use Rattle.std.proofs.lemmas.List.{get_or-set_same, get_or-set_other, length-set}
use Rattle.spatial_hash.specs.Hash.{home}
use Rattle.spatial_hash.specs.Table.{Table, entries_in, key_word, link_word}
use Rattle.spatial_hash.specs.Changes.{taken_to, joined, shrunk}
use Rattle.spatial_hash.specs.Removal.{IsLast}
use Rattle.spatial_hash.specs.Sound.{IsStep, Leads, EndsAt, IsSound, IsSoundBut}
use Rattle.spatial_hash.proofs.Maps.{Unlike}
use Rattle.spatial_hash.proofs.Places.{is_linked}
use Rattle.spatial_hash.proofs.Filling.{leads_kept}
use Rattle.spatial_hash.proofs.Extending.{leads_more, last_link, same_chain}
use Rattle.spatial_hash.proofs.Chains.{Among, few_below, once_on, step_on, not_through}

-- ---- where the highest node is the hole, the count falls

module _ (t : Table) (top : ℕ) (s : IsSoundBut t (λ n. n ≡ top)) (is : suc top ≡ t.linked) where
  step : (h j n : ℕ) → IsStep t h j n → IsStep (shrunk t) h j n
  step h j n r = record { link = r.link; low = r.low; filled = r.filled; at_home = r.at_home }

  leads : (h : ℕ) (ns : List ℕ) (j k : ℕ) → Leads t h j ns k → Leads (shrunk t) h j ns k
  leads h ns j k r = leads_kept t t.words t.cells (t.linked - 1) h (step h) ns j k r

  below : (n : ℕ) → n < t.nodes → 0 < key_word t (4 * t.buckets + n) → n < t.linked - 1
  below n lt f =
      elim (cases_lt n t.linked) [
        | inl l ↦ elim (cases_eq n top) [
          | inl e ↦ (let z : key_word t (4 * t.buckets + n) ≡ 0 = ap (λ (x : ℕ). key_word t (4 * t.buckets + x)) e ∙ (s.hole top refl).1 in absurd (omega arith))
          | inr ne ↦ omega arith
        ]
        | inr ge ↦ (let z : key_word t (4 * t.buckets + n) ≡ 0 = (s.free n ge lt).0 in absurd (omega arith))
      ]

  ended : (h k : ℕ) → EndsAt t h k → EndsAt (shrunk t) h k
  ended h k r = record {
    over = r.over;
    leads = leads h r.over h k r.leads;
    none = r.none;
    few = few_below (t.linked - 1) r.over (once_on t h r.over h k r.leads r.none) (λ x a. (let q = step_on t h r.over h k x r.leads a in below x q.0 q.1));
  }

  freed : (n : ℕ) → t.linked - 1 ≤ n → n < t.nodes → (key_word t (4 * t.buckets + n) ≡ 0) × (link_word t (t.buckets + n) ≡ 0)
  freed n le lt =
      elim (cases_eq n top) [
        | inl e ↦ (ap (λ (x : ℕ). key_word t (4 * t.buckets + x)) e ∙ (s.hole top refl).1, ap (λ (x : ℕ). link_word t (t.buckets + x)) e ∙ (s.hole top refl).2)
        | inr ne ↦ s.free n (omega arith) lt
      ]

  pub shrunk_sound : IsSound (shrunk t)
  shrunk_sound = record {
    some_buckets = s.some_buckets;
    few_buckets = s.few_buckets;
    few_nodes = s.few_nodes;
    few_linked = (let l : t.linked ≤ t.nodes = s.few_linked in omega arith);
    wide = s.wide;
    long = s.long;
    named = s.named;
    differ = s.differ;
    at_home = s.at_home;
    prefix = s.prefix;
    full = s.full;
    ends = λ h lt. ((s.ends h lt).0, ended h (s.ends h lt).0 (s.ends h lt).1);
    placed = λ n lt _. s.placed n (omega arith) (λ e. absurd (omega arith));
    reached = λ n lt _. (let r = s.reached n (omega arith) (λ e. absurd (omega arith)) in let h = home t.buckets (key_word t (4 * t.buckets + n)) in (r.0, leads h r.0 h (t.buckets + n) r.1));
    hole = λ n h. absurd h;
    free = freed;
  }

-- ---- the key of one entry moves to another

module _ (t : Table) (e l : ℕ) (wide : length t.words ≡ 5 * t.buckets + 2 * t.nodes) (low : e < entries_in t) (last_low : l < entries_in t) where
  pub key_last : key_word (taken_to t e l) l ≡ 0
  key_last = let k : length (set t.words e (key_word t l)) ≡ length t.words = length-set t.words e (key_word t l) in
      get_or-set_same (set t.words e (key_word t l)) l 0 0 (omega arith)

  pub key_other : (d : ℕ) → d ≢ e → d ≢ l → key_word (taken_to t e l) d ≡ key_word t d
  key_other d ne nl = get_or-set_other (set t.words e (key_word t l)) l d 0 0 nl ∙ get_or-set_other t.words e d (key_word t l) 0 ne

  pub key_here : e ≢ l → key_word (taken_to t e l) e ≡ key_word t l
  key_here ne = get_or-set_other (set t.words e (key_word t l)) l e 0 0 ne ∙ get_or-set_same t.words e (key_word t l) 0 (omega arith)

  pub links : (j : ℕ) → link_word (taken_to t e l) j ≡ link_word t j
  links j = key_other (4 * t.buckets + t.nodes + j) (λ q. absurd (omega arith)) (λ q. absurd (omega arith))

  pub not_last : (d : ℕ) → 0 < key_word (taken_to t e l) d → d ≢ l
  not_last d f q = let z : key_word (taken_to t e l) d ≡ 0 = ap (key_word (taken_to t e l)) q ∙ key_last in absurd (omega arith)

  pub taken_named : ((d : ℕ) → d < entries_in t → key_word t d ≤ 2 ^ 48) → (d : ℕ) → d < entries_in t → key_word (taken_to t e l) d ≤ 2 ^ 48
  taken_named old d lt =
      elim (cases_eq d l) [
        | inl q ↦ (let z : key_word (taken_to t e l) d ≡ 0 = ap (key_word (taken_to t e l)) q ∙ key_last in omega arith)
        | inr nl ↦ elim (cases_eq d e) [
          | inl q ↦ (
              let k : key_word (taken_to t e l) d ≡ key_word t l = ap (key_word (taken_to t e l)) q ∙ key_here (λ r. nl (q ∙ r)) in
              let b : key_word t l ≤ 2 ^ 48 = old l last_low in omega arith)
          | inr ne ↦ (let k : key_word (taken_to t e l) d ≡ key_word t d = key_other d ne nl in let b : key_word t d ≤ 2 ^ 48 = old d lt in omega arith)
        ]
      ]

  -- where the key at entry d comes from
  pub from : (d : ℕ) → d < entries_in t → 0 < key_word (taken_to t e l) d
      → (o : ℕ) × (o < entries_in t) × (key_word (taken_to t e l) d ≡ key_word t o) × (((d ≡ e) × (o ≡ l)) ⊎ ((d ≢ e) × (d ≢ l) × (o ≡ d)))
  from d lt f =
      let nl = not_last d f in
      elim (cases_eq d e) [
        | inl q ↦ (l, last_low, ap (key_word (taken_to t e l)) q ∙ key_here (λ r. nl (q ∙ r)), inl (q, refl))
        | inr ne ↦ (d, lt, key_other d ne nl, inr (ne, nl, refl))
      ]

  pub taken_differ : Unlike t → Unlike (taken_to t e l)
  taken_differ old a b la lb f same =
      let g : 0 < key_word (taken_to t e l) b = omega arith in
      let p = from a la f in
      let q = from b lb g in
      let one : p.0 ≡ q.0 = old p.0 q.0 p.1 q.1 (let k : key_word (taken_to t e l) a ≡ key_word t p.0 = p.2 in omega arith) (sym p.2 ∙ same ∙ q.2) in
      elim p.3 [
        | inl i ↦ elim q.3 [ inl j ↦ i.0 ∙ sym j.0 | inr j ↦ absurd (j.1 (sym j.2 ∙ sym one ∙ i.1)) ]
        | inr i ↦ elim q.3 [ inl j ↦ absurd (i.1 (sym i.2 ∙ one ∙ j.1)) | inr j ↦ sym i.2 ∙ one ∙ j.2 ]
      ]

-- ---- the last key of a walk moves

module _ (t : Table) (h e l : ℕ) (s : IsSound t) (x : IsLast t h e l) where
  abbrev pub after : Table
  after = taken_to t e l

  -- the entries but l are filled as before, with keys of the same buckets
  pub kept : (d : ℕ) → d ≢ l → 0 < key_word t d → (0 < key_word after d) × (home t.buckets (key_word after d) ≡ home t.buckets (key_word t d))
  kept d nl f =
      elim (cases_eq d e) [
        | inl q ↦ (
            let ne : e ≢ l = λ r. nl (q ∙ r) in
            let k : key_word after d ≡ key_word t l = ap (key_word after) q ∙ key_here t e l s.wide x.low x.last_low ne in
            let fl : 0 < key_word t l = x.last_filled in
            (omega arith, ap (home t.buckets) k ∙ x.last_home ∙ sym x.at_home ∙ ap (λ (y : ℕ). home t.buckets (key_word t y)) (sym q)))
        | inr ne ↦ (let k : key_word after d ≡ key_word t d = key_other t e l s.wide x.low x.last_low d ne nl in (omega arith, ap (home t.buckets) k))
      ]

  pub was : (d : ℕ) → 0 < key_word after d → (d ≢ l) × (0 < key_word t d)
  was d f =
      let nl = not_last t e l s.wide x.low x.last_low d f in
      elim (cases_eq d e) [
        | inl q ↦ (nl, (let fe : 0 < key_word t e = x.filled in let k : key_word t d ≡ key_word t e = ap (key_word t) q in omega arith))
        | inr ne ↦ (nl, (let k : key_word after d ≡ key_word t d = key_other t e l s.wide x.low x.last_low d ne nl in omega arith))
      ]

  pub still_free : (d : ℕ) → key_word t d ≡ 0 → key_word after d ≡ 0
  still_free d z = elim (cases_lt 0 (key_word after d)) [ inl f ↦ (let w : 0 < key_word t d = (was d f).1 in absurd (omega arith)) | inr g ↦ omega arith ]

  pub still_home : (g i : ℕ) → g < t.buckets → i < 4 → 0 < key_word after (4 * g + i) → home t.buckets (key_word after (4 * g + i)) ≡ g
  still_home g i lt li f = let w = was (4 * g + i) f in (kept (4 * g + i) w.0 w.1).1 ∙ s.at_home g i lt li w.1

  link_kept : (j : ℕ) → link_word after j ≡ link_word t j
  link_kept j = links t e l s.wide x.low x.last_low j

  -- ---- of a bucket

  module _ (i : ℕ) (lh : h < t.buckets) (li : i < 4) (at : l ≡ 4 * h + i) (last : i < 3 → key_word t (4 * h + suc i) ≡ 0) (none : link_word t h ≡ 0) where
    bucket_step : (g j n : ℕ) → IsStep t g j n → IsStep after g j n
    bucket_step g j n r =
        let k = kept (4 * t.buckets + n) (λ q. absurd (omega arith)) r.filled in
        record { link = link_kept j ∙ r.link; low = r.low; filled = k.0; at_home = k.1 ∙ r.at_home }

    bucket_leads : (g : ℕ) (ns : List ℕ) (j k : ℕ) → Leads t g j ns k → Leads after g j ns k
    bucket_leads g ns j k r = leads_kept t after.words after.cells t.linked g (bucket_step g) ns j k r

    bucket_prefix : (g j : ℕ) → g < t.buckets → j < 3 → 0 < key_word after (4 * g + suc j) → 0 < key_word after (4 * g + j)
    bucket_prefix g j lt lj f =
        let w = was (4 * g + suc j) f in
        (kept (4 * g + j) (λ q.
        let hh : g ≡ h = omega arith in
        let ii : j ≡ i = omega arith in
        let z : key_word t (4 * h + suc i) ≡ 0 = last (omega arith) in
        let e1 : 4 * g + suc j ≡ 4 * h + suc i = omega arith in
        let z2 : key_word t (4 * g + suc j) ≡ 0 = ap (key_word t) e1 ∙ z in
        let ff : 0 < key_word t (4 * g + suc j) = w.1 in absurd (omega arith)) (s.prefix g j lt lj w.1)).0

    bucket_full : (g : ℕ) → g < t.buckets → 0 < link_word after g → 0 < key_word after (4 * g + 3)
    bucket_full g lt f =
        let k : link_word after g ≡ link_word t g = link_kept g in
        (kept (4 * g + 3) (λ q. let hh : g ≡ h = omega arith in let z : link_word t g ≡ 0 = ap (link_word t) hh ∙ none in absurd (omega arith)) (s.full g lt (omega arith))).0

    bucket_ended : (g k : ℕ) → EndsAt t g k → EndsAt after g k
    bucket_ended g k r = record { over = r.over; leads = bucket_leads g r.over g k r.leads; none = link_kept k ∙ r.none; few = r.few }

    bucket_reached : (n : ℕ) → n < t.linked → (ns : List ℕ) × Leads after (home t.buckets (key_word after (4 * t.buckets + n))) (home t.buckets (key_word after (4 * t.buckets + n))) ns (t.buckets + n)
    bucket_reached n lt =
        let r = s.reached n lt (λ h. h) in
        let g = home t.buckets (key_word t (4 * t.buckets + n)) in
        let k = kept (4 * t.buckets + n) (λ q. absurd (omega arith)) (s.placed n lt (λ h. h)) in
        let P : ℕ → Type 0 = λ y. (ns : List ℕ) × Leads after y y ns (t.buckets + n) in
        subst P (sym k.1) (r.0, bucket_leads g r.0 g (t.buckets + n) r.1)

    pub bucket_sound : IsSound after
    bucket_sound = record {
      some_buckets = s.some_buckets;
      few_buckets = s.few_buckets;
      few_nodes = s.few_nodes;
      few_linked = s.few_linked;
      wide = length-set (set t.words e (key_word t l)) l 0 ∙ length-set t.words e (key_word t l) ∙ s.wide;
      long = length-set t.cells e (get_or t.cells l 0) ∙ s.long;
      named = taken_named t e l s.wide x.low x.last_low s.named;
      differ = taken_differ t e l s.wide x.low x.last_low s.differ;
      at_home = still_home;
      prefix = bucket_prefix;
      full = bucket_full;
      ends = λ g lt. ((s.ends g lt).0, bucket_ended g (s.ends g lt).0 (s.ends g lt).1);
      placed = λ n lt _. (kept (4 * t.buckets + n) (λ q. absurd (omega arith)) (s.placed n lt (λ h. h))).0;
      reached = λ n lt _. bucket_reached n lt;
      hole = λ n h. absurd h;
      free = λ n a b. (still_free (4 * t.buckets + n) (s.free n a b).0, link_kept (t.buckets + n) ∙ (s.free n a b).1);
    }

  -- ---- of a chain

  module _ (n p : ℕ) (lh : h < t.buckets) (at : l ≡ 4 * t.buckets + n) (xs : List ℕ) (before : Leads t h h xs p) (here : IsStep t h p n) (none : link_word t (t.buckets + n) ≡ 0) where
    abbrev pub cut : Table
    cut = joined after p 0

    pub lown : n < t.linked
    lown = is_linked t n s here.low here.filled

    lowp : p < t.buckets + t.nodes
    lowp = elim (last_link t h xs h p before) [
      | inl q ↦ omega arith
      | inr m ↦ (let a : p ≡ t.buckets + m.0 = m.1.here in let b : m.0 < t.nodes = m.1.low in omega arith)
    ]

    cut_wide : length cut.words ≡ 5 * t.buckets + 2 * t.nodes
    cut_wide = length-set after.words (4 * t.buckets + t.nodes + p) 0 ∙ length-set (set t.words e (key_word t l)) l 0 ∙ length-set t.words e (key_word t l) ∙ s.wide

    pub cut_key : (d : ℕ) → d < entries_in t → key_word cut d ≡ key_word after d
    cut_key d lt = get_or-set_other after.words (4 * t.buckets + t.nodes + p) d 0 0 (λ q. absurd (omega arith))

    cut_link : (j : ℕ) → j ≢ p → link_word cut j ≡ link_word t j
    cut_link j ne = get_or-set_other after.words (4 * t.buckets + t.nodes + p) (4 * t.buckets + t.nodes + j) 0 0 (λ q. ne (omega arith)) ∙ link_kept j

    cut_here : link_word cut p ≡ 0
    cut_here =
        let a : length after.words ≡ length (set t.words e (key_word t l)) = length-set (set t.words e (key_word t l)) l 0 in
        let b : length (set t.words e (key_word t l)) ≡ length t.words = length-set t.words e (key_word t l) in
        let c : length t.words ≡ 5 * t.buckets + 2 * t.nodes = s.wide in
        let d : p < t.buckets + t.nodes = lowp in
        get_or-set_same after.words (4 * t.buckets + t.nodes + p) 0 0 (omega arith)

    cut_free : (d : ℕ) → d < entries_in t → 0 < key_word cut d → (d ≢ l) × (0 < key_word t d)
    cut_free d lt f = let k : key_word cut d ≡ key_word after d = cut_key d lt in was d (omega arith)

    cut_kept : (d : ℕ) → d < entries_in t → d ≢ l → 0 < key_word t d → (0 < key_word cut d) × (home t.buckets (key_word cut d) ≡ home t.buckets (key_word t d))
    cut_kept d lt nl f = let k : key_word cut d ≡ key_word after d = cut_key d lt in let w = kept d nl f in let w0 : 0 < key_word after d = w.0 in (omega arith, ap (home t.buckets) k ∙ w.1)

    pub cut_step : (g j m : ℕ) → m ≢ n → IsStep t g j m → IsStep cut g j m
    cut_step g j m ne r =
        let f : link_word t j ≡ suc m = r.link in
        let hp : link_word t p ≡ suc n = here.link in
        let np : j ≢ p = λ q. (let f2 : link_word t p ≡ suc m = ap (link_word t) (sym q) ∙ f in ne (omega arith)) in
        let lm : m < t.nodes = r.low in
        let k = cut_kept (4 * t.buckets + m) (omega arith) (λ q. ne (omega arith)) r.filled in
        record { link = cut_link j np ∙ f; low = r.low; filled = k.0; at_home = k.1 ∙ r.at_home }

    pub cut_leads : (g : ℕ) (ns : List ℕ) (j k : ℕ) → (Among n ns → ⊥) → Leads t g j ns k → Leads cut g j ns k
    cut_leads g [] j k a r = r
    cut_leads g (m ∷ ns) j k a r = (cut_step g j m (λ q. a (inl q)) r.0, cut_leads g ns (t.buckets + m) k (λ b. a (inr b)) r.1)

    old_leads : Leads t h h (xs ++ n ∷ []) (t.buckets + n)
    old_leads = leads_more t h xs h p n before here

    old_few : length (xs ++ n ∷ []) ≤ t.linked
    old_few = few_below t.linked (xs ++ n ∷ []) (once_on t h (xs ++ n ∷ []) h (t.buckets + n) old_leads none) (λ y a. (let q = step_on t h (xs ++ n ∷ []) h (t.buckets + n) y old_leads a in is_linked t y s q.0 q.1))

    -- the old end of the chain of bucket h
    old_end : EndsAt t h (t.buckets + n)
    old_end = record { over = xs ++ n ∷ []; leads = old_leads; none = none; few = old_few }

    p_other : p ≢ t.buckets + n
    p_other q = let a : link_word t p ≡ suc n = here.link in let b : link_word t p ≡ 0 = ap (link_word t) q ∙ none in absurd (omega arith)

    cut_ended : (g k : ℕ) → g < t.buckets → EndsAt t g k → (m : ℕ) × EndsAt cut g m
    cut_ended g k lt r =
        elim (cases_eq k (t.buckets + n)) [
          | inl q ↦ (
              let P : ℕ → Type 0 = EndsAt t g in
              let long : length (xs ++ n ∷ []) ≡ length xs + 1 = length-append xs (n ∷ []) in
              let all : length (xs ++ n ∷ []) ≤ t.linked = old_few in
              let hh : h ≡ g = same_chain t h g (t.buckets + n) lh lt old_end (subst P q r) in
              let Q : ℕ → Type 0 = λ y. EndsAt cut y p in
              (p, subst Q hh (record { over = xs; leads = cut_leads h xs h p (not_through t h xs h p n before none p_other) before; none = cut_here; few = omega arith })))
          | inr ne ↦ (
            k,
            record {
              over = r.over;
              leads = cut_leads g r.over g k (not_through t g r.over g k n r.leads none ne) r.leads;
              none = elim (cases_eq k p) [ inl q ↦ ap (link_word cut) q ∙ cut_here | inr np ↦ cut_link k np ∙ r.none ];
              few = r.few;
            },
          )
        ]

    cut_reached : (m : ℕ) → m < t.linked → m ≢ n → (ns : List ℕ) × Leads cut (home t.buckets (key_word cut (4 * t.buckets + m))) (home t.buckets (key_word cut (4 * t.buckets + m))) ns (t.buckets + m)
    cut_reached m lt ne =
        let few : t.linked ≤ t.nodes = s.few_linked in
        let r = s.reached m lt (λ h. h) in
        let g = home t.buckets (key_word t (4 * t.buckets + m)) in
        let k = cut_kept (4 * t.buckets + m) (omega arith) (λ q. ne (omega arith)) (s.placed m lt (λ h. h)) in
        let P : ℕ → Type 0 = λ y. (ns : List ℕ) × Leads cut y y ns (t.buckets + m) in
        subst P (sym k.1) (r.0, cut_leads g r.0 g (t.buckets + m) (not_through t g r.0 g (t.buckets + m) n r.1 none (λ q. ne (omega arith))) r.1)

    cut_differ : Unlike cut
    cut_differ a b la lb f same =
        let ka : key_word cut a ≡ key_word after a = cut_key a la in
        taken_differ t e l s.wide x.low x.last_low s.differ a b la lb (omega arith) (sym ka ∙ same ∙ cut_key b lb)

    pub cut_sound : IsSoundBut cut (λ m. m ≡ n)
    cut_sound =
        let few : t.linked ≤ t.nodes = s.few_linked in
        let ln : n < t.linked = lown in
        record {
          some_buckets = s.some_buckets;
          few_buckets = s.few_buckets;
          few_nodes = s.few_nodes;
          few_linked = s.few_linked;
          wide = cut_wide;
          long = length-set t.cells e (get_or t.cells l 0) ∙ s.long;
          named = λ d lt. (let k : key_word cut d ≡ key_word after d = cut_key d lt in let b : key_word after d ≤ 2 ^ 48 = taken_named t e l s.wide x.low x.last_low s.named d lt in omega arith);
          differ = cut_differ;
          at_home = λ g i lt li f. (let w = cut_free (4 * g + i) (omega arith) f in (cut_kept (4 * g + i) (omega arith) w.0 w.1).1 ∙ s.at_home g i lt li w.1);
          prefix = λ g i lt li f. (let w = cut_free (4 * g + suc i) (omega arith) f in (cut_kept (4 * g + i) (omega arith) (λ q. absurd (omega arith)) (s.prefix g i lt li w.1)).0);
          full = λ g lt f. (
              let o : 0 < link_word t g = elim (cases_eq g p) [
                | inl q ↦ (let z : link_word cut g ≡ 0 = ap (link_word cut) q ∙ cut_here in absurd (omega arith))
                | inr np ↦ (let k : link_word cut g ≡ link_word t g = cut_link g np in omega arith)
              ] in
              (cut_kept (4 * g + 3) (omega arith) (λ q. absurd (omega arith)) (s.full g lt o)).0);
          ends = λ g lt. cut_ended g (s.ends g lt).0 lt (s.ends g lt).1;
          placed = λ m lt ne. (cut_kept (4 * t.buckets + m) (omega arith) (λ q. ne (omega arith)) (s.placed m lt (λ h. h))).0;
          reached = cut_reached;
          hole = λ m is. (
            rw is lown,
            ap (λ (x : ℕ). key_word cut (4 * t.buckets + x)) is ∙ cut_key (4 * t.buckets + n) (omega arith) ∙ ap (key_word after) (sym at) ∙ key_last t e l s.wide x.low x.last_low,
            ap (λ (x : ℕ). link_word cut (t.buckets + x)) is ∙ cut_link (t.buckets + n) (λ q. p_other (sym q)) ∙ none,
          );
          free = λ m a b. (
            cut_key (4 * t.buckets + m) (omega arith) ∙ still_free (4 * t.buckets + m) (s.free m a b).0,
            elim (cases_eq (t.buckets + m) p) [ inl q ↦ ap (link_word cut) q ∙ cut_here | inr np ↦ cut_link (t.buckets + m) np ∙ (s.free m a b).1 ],
          );
        }
