-- The first unlinked node takes a new key, and is linked at the end of a chain.
use Rattle.std.proofs.Common.{◌≡◌, ◌≢◌, ℕ, suc, ◌+◌, ◌*◌, ◌^◌, ◌<◌, ◌≤◌, List, [], ◌∷◌, ◌++◌, length, refl, sym, ap, ◌∙◌, arith, inl, inr, get_or, set, length-append, subst}
use Rattle.std.specs.Prelude.{◌⊎◌}
use Rattle.std.proofs.lemmas.Bool.{cases_eq, cases_lt}
use Rattle.std.proofs.lemmas.List.{get_or-set_same, get_or-set_other, length-set}
use Rattle.spatial_hash.specs.Hash.{home}
use Rattle.spatial_hash.specs.Table.{Table, entries_in, key_word, link_word}
use Rattle.spatial_hash.specs.Changes.{extended}
use Rattle.spatial_hash.specs.Walk.{IsFilled}
use Rattle.spatial_hash.specs.Sound.{IsStep, Leads, EndsAt, IsSound}
use Rattle.spatial_hash.specs.Lookup.{IsNew}
use Rattle.spatial_hash.proofs.Places.{nowhere}
use Rattle.spatial_hash.proofs.Filling.{leads_kept, differ_set}

-- one node more
pub leads_more : (t : Table) (h : ℕ) (ns : List ℕ) (j k n : ℕ) → Leads t h j ns k → IsStep t h k n → Leads t h j (ns ++ n ∷ []) (t.buckets + n)
leads_more t h [] j k n r s = let P : ℕ → Type 0 = λ x. IsStep t h x n in (subst P (sym r) s, refl)
leads_more t h (m ∷ ns) j k n r s = (r.0, leads_more t h ns (t.buckets + m) k n r.1 s)

-- a link that is reached is the bucket's, or that of a filled node
pub record IsNode (t : Table) (h k n : ℕ) : Type 0 where
  pub here : k ≡ t.buckets + n
  pub low : n < t.nodes
  pub filled : 0 < key_word t (4 * t.buckets + n)
  pub at_home : home t.buckets (key_word t (4 * t.buckets + n)) ≡ h

pub last_link : (t : Table) (h : ℕ) (ns : List ℕ) (j k : ℕ) → Leads t h j ns k → (j ≡ k) ⊎ ((n : ℕ) × IsNode t h k n)
last_link t h [] j k r = inl r
last_link t h (m ∷ ns) j k r =
    elim (last_link t h ns (t.buckets + m) k r.1) [
      | inl e ↦ inr (m, record { here = sym e; low = r.0.low; filled = r.0.filled; at_home = r.0.at_home })
      | inr n ↦ inr n
    ]

-- two chains that lead to one link are one
pub same_chain : (t : Table) (h g k : ℕ) → h < t.buckets → g < t.buckets → EndsAt t h k → EndsAt t g k → h ≡ g
same_chain t h g k lh lg a b =
    elim (last_link t h a.over h k a.leads) [
      | inl e ↦ elim (last_link t g b.over g k b.leads) [
        | inl f ↦ e ∙ sym f
        | inr n ↦ (let q : k ≡ t.buckets + n.0 = n.1.here in absurd (omega arith))
      ]
      | inr m ↦ elim (last_link t g b.over g k b.leads) [
        | inl f ↦ (let q : k ≡ t.buckets + m.0 = m.1.here in absurd (omega arith))
        | inr n ↦ (
            let q : k ≡ t.buckets + m.0 = m.1.here in
            let r : k ≡ t.buckets + n.0 = n.1.here in
            let one : m.0 ≡ n.0 = omega arith in
            sym m.1.at_home ∙ ap (λ (x : ℕ). home t.buckets (key_word t (4 * t.buckets + x))) one ∙ n.1.at_home)
      ]
    ]

module _ (t : Table) (w c j : ℕ) (s : IsSound t) (new : IsNew t w) (full : IsFilled t (home t.buckets w)) (at : EndsAt t (home t.buckets w) j) (room : t.linked < t.nodes) where
  abbrev pub after : Table
  after = extended t j w c

  inside : 4 * t.buckets + t.linked < length t.words
  inside = let q : length t.words ≡ 5 * t.buckets + 2 * t.nodes = s.wide in omega arith

  -- link j is a bucket's, or that of a linked node
  low : (j < t.buckets) ⊎ ((m : ℕ) × (j ≡ t.buckets + m) × (m < t.linked))
  low =
      elim (last_link t (home t.buckets w) at.over (home t.buckets w) j at.leads) [
        | inl e ↦ inl (let r : home t.buckets w < t.buckets = new.at_home in omega arith)
        | inr n ↦ inr (
          n.0,
          n.1.here,
          elim (cases_lt n.0 t.linked) [
            | inl lt ↦ lt
            | inr ge ↦ (let z : key_word t (4 * t.buckets + n.0) ≡ 0 = (s.free n.0 ge n.1.low).0 in let f : 0 < key_word t (4 * t.buckets + n.0) = n.1.filled in absurd (omega arith))
          ],
        )
      ]

  lowj : j < t.buckets + t.linked
  lowj = elim low [ inl l ↦ omega arith | inr m ↦ (let a : j ≡ t.buckets + m.0 = m.1 in let b : m.0 < t.linked = m.2 in omega arith) ]

  -- ---- words

  pub key_elsewhere : (d : ℕ) → d < entries_in t → d ≢ 4 * t.buckets + t.linked → key_word after d ≡ key_word t d
  key_elsewhere d l ne = get_or-set_other (set t.words (4 * t.buckets + t.linked) w) (4 * t.buckets + t.nodes + j) d (t.linked + 1) 0 (λ q. absurd (omega arith))
      ∙ get_or-set_other t.words (4 * t.buckets + t.linked) d w 0 ne

  pub key_here : key_word after (4 * t.buckets + t.linked) ≡ w
  key_here = get_or-set_other (set t.words (4 * t.buckets + t.linked) w) (4 * t.buckets + t.nodes + j) (4 * t.buckets + t.linked) (t.linked + 1) 0 (λ q. absurd (omega arith))
      ∙ get_or-set_same t.words (4 * t.buckets + t.linked) w 0 inside

  link_elsewhere : (i : ℕ) → i ≢ j → link_word after i ≡ link_word t i
  link_elsewhere i ne = get_or-set_other (set t.words (4 * t.buckets + t.linked) w) (4 * t.buckets + t.nodes + j) (4 * t.buckets + t.nodes + i) (t.linked + 1) 0 (λ q. ne (omega arith))
      ∙ get_or-set_other t.words (4 * t.buckets + t.linked) (4 * t.buckets + t.nodes + i) w 0 (λ q. absurd (omega arith))

  link_here : link_word after j ≡ suc t.linked
  link_here =
      let l : j < t.buckets + t.linked = lowj in
      let q : length t.words ≡ 5 * t.buckets + 2 * t.nodes = s.wide in
      let k : length (set t.words (4 * t.buckets + t.linked) w) ≡ length t.words = length-set t.words (4 * t.buckets + t.linked) w in
      let one : t.linked + 1 ≡ suc t.linked = omega arith in
      get_or-set_same (set t.words (4 * t.buckets + t.linked) w) (4 * t.buckets + t.nodes + j) (t.linked + 1) 0 (omega arith) ∙ one

  bucket_key : (h i : ℕ) → h < t.buckets → i < 4 → key_word after (4 * h + i) ≡ key_word t (4 * h + i)
  bucket_key h i lt li = key_elsewhere (4 * h + i) (omega arith) (λ q. absurd (omega arith))

  node_key : (n : ℕ) → n < t.nodes → n ≢ t.linked → key_word after (4 * t.buckets + n) ≡ key_word t (4 * t.buckets + n)
  node_key n lt ne = key_elsewhere (4 * t.buckets + n) (omega arith) (λ q. ne (omega arith))

  -- ---- chains

  step : (h i n : ℕ) → IsStep t h i n → IsStep after h i n
  step h i n r =
      let z : link_word t j ≡ 0 = at.none in
      let f : link_word t i ≡ suc n = r.link in
      let g : 0 < key_word t (4 * t.buckets + n) = r.filled in
      let ne : i ≢ j = λ q. (let f2 : link_word t j ≡ suc n = ap (link_word t) (sym q) ∙ f in absurd (omega arith)) in
      let nn : n ≢ t.linked = λ q. (let g2 : key_word t (4 * t.buckets + n) ≡ 0 = (s.free n (omega arith) r.low).0 in absurd (omega arith)) in
      let k : key_word after (4 * t.buckets + n) ≡ key_word t (4 * t.buckets + n) = node_key n r.low nn in
      record {
        link = link_elsewhere i ne ∙ f;
        low = r.low;
        filled = omega arith;
        at_home = ap (home t.buckets) k ∙ r.at_home;
      }

  leads : (h : ℕ) (ns : List ℕ) (i k : ℕ) → Leads t h i ns k → Leads after h i ns k
  leads h ns i k r = leads_kept t after.words after.cells (t.linked + 1) h (step h) ns i k r

  new_step : IsStep after (home t.buckets w) j t.linked
  new_step = record {
    link = link_here;
    low = room;
    filled = (let k : key_word after (4 * t.buckets + t.linked) ≡ w = key_here in let p : 0 < w = new.some in omega arith);
    at_home = ap (home t.buckets) key_here;
  }

  new_leads : Leads after (home t.buckets w) (home t.buckets w) (at.over ++ t.linked ∷ []) (t.buckets + t.linked)
  new_leads = leads_more after (home t.buckets w) at.over (home t.buckets w) j t.linked (leads (home t.buckets w) at.over (home t.buckets w) j at.leads) new_step

  new_end : EndsAt after (home t.buckets w) (t.buckets + t.linked)
  new_end =
      let l : j < t.buckets + t.linked = lowj in
      let f : length at.over ≤ t.linked = at.few in
      let g : length (at.over ++ t.linked ∷ []) ≡ length at.over + 1 = length-append at.over (t.linked ∷ []) in
      record {
        over = at.over ++ t.linked ∷ [];
        leads = new_leads;
        none = link_elsewhere (t.buckets + t.linked) (λ q. absurd (omega arith)) ∙ (s.free t.linked (omega arith) room).1;
        few = omega arith;
      }

  ended : (h k : ℕ) → h < t.buckets → EndsAt t h k → (m : ℕ) × EndsAt after h m
  ended h k lt r =
      elim (cases_eq k j) [
        | inl q ↦ (
            let P : ℕ → Type 0 = EndsAt t h in
            let hh : home t.buckets w ≡ h = same_chain t (home t.buckets w) h j new.at_home lt at (subst P q r) in
            let Q : ℕ → Type 0 = λ x. EndsAt after x (t.buckets + t.linked) in
            (t.buckets + t.linked, subst Q hh new_end))
        | inr ne ↦ (k, (let f : length r.over ≤ t.linked = r.few in record { over = r.over; leads = leads h r.over h k r.leads; none = link_elsewhere k ne ∙ r.none; few = omega arith }))
      ]

  -- ---- the rest

  named : (d : ℕ) → d < entries_in t → key_word after d ≤ 2 ^ 48
  named d l =
      elim (cases_eq d (4 * t.buckets + t.linked)) [
        | inl q ↦ (let k : key_word after d ≡ w = ap (key_word after) q ∙ key_here in let p : w ≤ 2 ^ 48 = new.named in omega arith)
        | inr ne ↦ (let k : key_word after d ≡ key_word t d = key_elsewhere d l ne in let p : key_word t d ≤ 2 ^ 48 = s.named d l in omega arith)
      ]

  first_key : (d : ℕ) → d < entries_in t → key_word after d ≡ get_or (set t.words (4 * t.buckets + t.linked) w) d 0
  first_key d l = get_or-set_other (set t.words (4 * t.buckets + t.linked) w) (4 * t.buckets + t.nodes + j) d (t.linked + 1) 0 (λ q. absurd (omega arith))

  differ : (d e : ℕ) → d < entries_in t → e < entries_in t → 0 < key_word after d → key_word after d ≡ key_word after e → d ≡ e
  differ d e ld le f same =
      let old = differ_set t.words (entries_in t) (4 * t.buckets + t.linked) w inside (nowhere t w s new.some new.at_home new.absent) s.differ in
      let kd : key_word after d ≡ get_or (set t.words (4 * t.buckets + t.linked) w) d 0 = first_key d ld in
      old d e ld le (omega arith) (sym kd ∙ same ∙ first_key e le)

  fulls : (h : ℕ) → h < t.buckets → 0 < link_word after h → 0 < key_word after (4 * h + 3)
  fulls h lt f =
      let k : key_word after (4 * h + 3) ≡ key_word t (4 * h + 3) = bucket_key h 3 lt (omega arith) in
      elim (cases_eq h j) [
        | inl q ↦ elim (last_link t (home t.buckets w) at.over (home t.buckets w) j at.leads) [
          | inl e ↦ (let g : 0 < key_word t (4 * home t.buckets w + 3) = full 3 (omega arith) in let hh : home t.buckets w ≡ h = e ∙ sym q in let g2 : 0 < key_word t (4 * h + 3) = rw hh at g in omega arith)
          | inr n ↦ (let x : j ≡ t.buckets + n.0 = n.1.here in absurd (omega arith))
        ]
        | inr ne ↦ (let l : link_word after h ≡ link_word t h = link_elsewhere h ne in let g : 0 < key_word t (4 * h + 3) = s.full h lt (omega arith) in omega arith)
      ]

  placed : (n : ℕ) → n < t.linked + 1 → 0 < key_word after (4 * t.buckets + n)
  placed n lt =
      elim (cases_eq n t.linked) [
        | inl q ↦ (let k : key_word after (4 * t.buckets + n) ≡ w = ap (λ (x : ℕ). key_word after (4 * t.buckets + x)) q ∙ key_here in let p : 0 < w = new.some in omega arith)
        | inr ne ↦ (let k : key_word after (4 * t.buckets + n) ≡ key_word t (4 * t.buckets + n) = node_key n (omega arith) ne in let p : 0 < key_word t (4 * t.buckets + n) = s.placed n (omega arith) (λ h. h) in omega arith)
      ]

  reached : (n : ℕ) → n < t.linked + 1 → (ns : List ℕ) × Leads after (home t.buckets (key_word after (4 * t.buckets + n))) (home t.buckets (key_word after (4 * t.buckets + n))) ns (t.buckets + n)
  reached n lt =
      let P : ℕ → ℕ → Type 0 = λ x m. (ns : List ℕ) × Leads after (home t.buckets x) (home t.buckets x) ns (t.buckets + m) in
      elim (cases_eq n t.linked) [
        | inl q ↦ (
            let k : key_word after (4 * t.buckets + n) ≡ w = ap (λ (x : ℕ). key_word after (4 * t.buckets + x)) q ∙ key_here in
            let a : P w t.linked = (at.over ++ t.linked ∷ [], new_leads) in
            let b : P w n = subst (P w) (sym q) a in
            subst (λ (x : ℕ). P x n) (sym k) b)
        | inr ne ↦ (
            let k : key_word after (4 * t.buckets + n) ≡ key_word t (4 * t.buckets + n) = node_key n (omega arith) ne in
            let o = s.reached n (omega arith) (λ h. h) in
            let h = home t.buckets (key_word t (4 * t.buckets + n)) in
            let b : P (key_word t (4 * t.buckets + n)) n = (o.0, leads h o.0 h (t.buckets + n) o.1) in
            subst (λ (x : ℕ). P x n) (sym k) b)
      ]

  freed : (n : ℕ) → t.linked + 1 ≤ n → n < t.nodes → (key_word after (4 * t.buckets + n) ≡ 0) × (link_word after (t.buckets + n) ≡ 0)
  freed n a b =
      let l : j < t.buckets + t.linked = lowj in
      (node_key n b (λ q. absurd (omega arith)) ∙ (s.free n (omega arith) b).0, link_elsewhere (t.buckets + n) (λ q. absurd (omega arith)) ∙ (s.free n (omega arith) b).1)

  pub extended_sound : IsSound after
  extended_sound = record {
    some_buckets = s.some_buckets;
    few_buckets = s.few_buckets;
    few_nodes = s.few_nodes;
    few_linked = omega arith;
    wide = length-set (set t.words (4 * t.buckets + t.linked) w) (4 * t.buckets + t.nodes + j) (t.linked + 1) ∙ length-set t.words (4 * t.buckets + t.linked) w ∙ s.wide;
    long = length-set t.cells (4 * t.buckets + t.linked) c ∙ s.long;
    named = named;
    differ = differ;
    at_home = λ h i lt li f. (let k : key_word after (4 * h + i) ≡ key_word t (4 * h + i) = bucket_key h i lt li in ap (home t.buckets) k ∙ s.at_home h i lt li (omega arith));
    prefix = λ h i lt li f. (
        let k : key_word after (4 * h + suc i) ≡ key_word t (4 * h + suc i) = bucket_key h (suc i) lt (omega arith) in
        let k2 : key_word after (4 * h + i) ≡ key_word t (4 * h + i) = bucket_key h i lt (omega arith) in
        let g : 0 < key_word t (4 * h + i) = s.prefix h i lt li (omega arith) in omega arith);
    full = fulls;
    ends = λ h lt. ended h (s.ends h lt).0 lt (s.ends h lt).1;
    placed = λ n lt _. placed n lt;
    reached = λ n lt _. reached n lt;
    hole = λ n h. absurd h;
    free = freed;
  }

-- a chain's last link is one of the table's
pub link_low : (t : Table) (h j : ℕ) → h < t.buckets → EndsAt t h j → j < t.buckets + t.nodes
link_low t h j lt at =
    elim (last_link t h at.over h j at.leads) [
      | inl e ↦ omega arith
      | inr n ↦ (let a : j ≡ t.buckets + n.0 = n.1.here in let b : n.0 < t.nodes = n.1.low in omega arith)
    ]
