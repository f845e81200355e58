-- The search for a word along the links that a seat has seen.
use Rattle.std.proofs.Common.{◌≡◌, ◌≢◌, ℕ, suc, ◌+◌, ◌*◌, ◌<◌, ◌≤◌, List, [], ◌∷◌, ◌++◌, length, refl, sym, ap, ◌∙◌, arith, inl, inr, subst, length-append}
use Rattle.std.proofs.lemmas.Bool.{cases_lt, cases_eq}
use Rattle.spatial_hash.specs.Hash.{home}
use Rattle.spatial_hash.specs.Table.{Table, key_word, link_word}
use Rattle.fusion_core.specs.TouchWords.{shown, link_at, Passes, LeadsPast}
use Rattle.fusion_core.specs.TouchSteps.{IsNext}
use Rattle.fusion_core.specs.TouchNext.{IsHit, IsOnChain, IsShort}

module _ (t : Table) (us : List ℕ) (k w : ℕ) where
  -- the key of node n was passed
  abbrev pub PassesNode : ℕ → Type 0
  PassesNode n = (0 < key_word (shown t us) (4 * t.buckets + n)) × (key_word (shown t us) (4 * t.buckets + n) ≢ k)

  -- link l was reached from link h over i nodes, and what is on the chain from h on and was not met is on it from l on
  pub record IsAt (h i l : ℕ) : Type 0 where
    pub over : List ℕ
    pub many : length over ≡ i
    pub path : LeadsPast (shown t us) k h over l
    pub rest : IsOnChain t us k h w → IsOnChain t us k l w

  pub starts : (h : ℕ) → IsAt h 0 h
  starts h = record { over = []; many = refl; path = refl; rest = λ x. x }

  pub hits : (h i l : ℕ) → IsAt h i l → IsHit t us w l → IsOnChain t us k h w
  hits h i l a hit = (a.over, l, a.path, hit)

  leads_more : (ns : List ℕ) (j l n : ℕ) → LeadsPast (shown t us) k j ns l → link_word (shown t us) l ≡ suc n → PassesNode n → LeadsPast (shown t us) k j (ns ++ n ∷ []) (t.buckets + n)
  leads_more [] j l n s e p = (ap (link_word (shown t us)) s ∙ e, p.0, p.1, refl)
  leads_more (v ∷ vs) j l n s e p = (s.0, s.1, s.2, leads_more vs (t.buckets + v) l n s.3 e p)

  hit_end : (l j : ℕ) → link_word (shown t us) l ≡ 0 → l ≡ j → IsHit t us w j → w ≡ link_at t l
  hit_end l j z s (inl e) = e ∙ ap (link_at t) (sym s)
  hit_end l j z s (inr m) = let a : link_word (shown t us) j ≡ suc m.0 = m.2 in let b : link_word (shown t us) l ≡ link_word (shown t us) j = ap (link_word (shown t us)) s in absurd (omega arith)

  end_by : (l : ℕ) → link_word (shown t us) l ≡ 0 → (ns : List ℕ) (j : ℕ) → LeadsPast (shown t us) k l ns j → IsHit t us w j → w ≡ link_at t l
  end_by l z [] j p hit = hit_end l j z p hit
  end_by l z (m ∷ ns) j p hit = let a : link_word (shown t us) l ≡ suc m = p.0 in absurd (omega arith)

  -- where link l leads to no node, nothing but this link is on the chain from there on
  pub ends_here : (h i l : ℕ) → IsAt h i l → link_word (shown t us) l ≡ 0 → IsOnChain t us k h w → w ≡ link_at t l
  ends_here h i l a z o = (let r = a.rest o in end_by l z r.0 r.1 r.2 r.3)

  hit_here : {A : Type 0} (l n j : ℕ) → link_word (shown t us) l ≡ suc n → w ≢ link_at t l → w ≢ 4 * t.buckets + n → l ≡ j → IsHit t us w j → A
  hit_here l n j e nl nk s (inl q) = absurd (nl (q ∙ ap (link_at t) (sym s)))
  hit_here l n j e nl nk s (inr m) =
      let a : link_word (shown t us) j ≡ suc m.0 = m.2 in
      let b : link_word (shown t us) l ≡ link_word (shown t us) j = ap (link_word (shown t us)) s in
      let same : m.0 ≡ n = omega arith in
      absurd (nk (m.1 ∙ ap (λ (x : ℕ). 4 * t.buckets + x) same))

  on_by : (l n : ℕ) → link_word (shown t us) l ≡ suc n → w ≢ link_at t l → w ≢ 4 * t.buckets + n → (ns : List ℕ) (j : ℕ) → LeadsPast (shown t us) k l ns j → IsHit t us w j → PassesNode n × IsOnChain t us k (t.buckets + n) w
  on_by l n e nl nk [] j p hit = hit_here l n j e nl nk p hit
  on_by l n e nl nk (m ∷ ns) j p hit =
      let a : link_word (shown t us) l ≡ suc m = p.0 in
      let same : m ≡ n = omega arith in
      let P : ℕ → Type 0 = λ x. PassesNode x × IsOnChain t us k (t.buckets + x) w in
      subst P same ((p.1, p.2), (ns, j, p.3, hit))

  -- link l leads to node n, and neither this link nor the node's key is the word
  pub goes_on : (h i l n : ℕ) → IsAt h i l → link_word (shown t us) l ≡ suc n → w ≢ link_at t l → w ≢ 4 * t.buckets + n → IsOnChain t us k h w → PassesNode n × IsOnChain t us k (t.buckets + n) w
  goes_on h i l n a e nl nk o = (let r = a.rest o in on_by l n e nl nk r.0 r.1 r.2 r.3)

  pub steps_on : (h i l n : ℕ) → IsAt h i l → link_word (shown t us) l ≡ suc n → w ≢ link_at t l → w ≢ 4 * t.buckets + n → PassesNode n → IsAt h (i + 1) (t.buckets + n)
  steps_on h i l n a e nl nk p = record {
    over = a.over ++ n ∷ [];
    many = length-append a.over (n ∷ []) ∙ (let m : length a.over ≡ i = a.many in let q : length a.over + 1 ≡ i + 1 = omega arith in q);
    path = leads_more a.over h l n a.path e p;
    rest = λ o. (goes_on h i l n a e nl nk o).1;
  }

  -- link l is one of the table's, and so is the node that it leads to; there is none after as many nodes as there are
  pub bounds : (h i l : ℕ) → h ≡ home t.buckets k → IsShort t us k → IsAt h i l → (l < t.buckets + t.nodes) × (0 < link_word (shown t us) l → (link_word (shown t us) l ≤ t.nodes) × (i < t.nodes))
  bounds h i l is short a =
      let P : ℕ → Type 0 = λ x. LeadsPast (shown t us) k x a.over l in
      let s = short a.over l (subst P is a.path) in
      let m : length a.over ≡ i = a.many in
      (s.0, λ some. ((s.1 some).0, (let q : length a.over < t.nodes = (s.1 some).1 in omega arith)))

-- ---- the entries of the bucket

-- the first i entries were passed, and none of them is the word
pub record IsBefore (t : Table) (us : List ℕ) (k w i : ℕ) : Type 0 where
  pub passes : Passes (shown t us) k (home t.buckets k) i
  pub others : (a : ℕ) → a < i → 4 * home t.buckets k + a ≢ w

pub before_none : (t : Table) (us : List ℕ) (k w : ℕ) → IsBefore t us k w 0
before_none t us k w = record { passes = λ a lt. absurd (omega arith); others = λ a lt. absurd (omega arith) }

pub before_more : (t : Table) (us : List ℕ) (k w i : ℕ) → IsBefore t us k w i → 4 * home t.buckets k + i ≢ w → (0 < key_word (shown t us) (4 * home t.buckets k + i)) × (key_word (shown t us) (4 * home t.buckets k + i) ≢ k) → IsBefore t us k w (i + 1)
before_more t us k w i b ne p = record {
  passes = λ a lt. elim (cases_eq a i) [
    | inl q ↦ (let P : ℕ → Type 0 = λ x. (0 < key_word (shown t us) (4 * home t.buckets k + x)) × (key_word (shown t us) (4 * home t.buckets k + x) ≢ k) in subst P (sym q) p)
    | inr other ↦ b.passes a (omega arith)
  ];
  others = λ a lt. elim (cases_eq a i) [
    | inl q ↦ (let P : ℕ → Type 0 = λ x. 4 * home t.buckets k + x ≢ w in subst P (sym q) ne)
    | inr other ↦ b.others a (omega arith)
  ];
}

-- entry i is the word
pub next_here : (t : Table) (us : List ℕ) (k w i : ℕ) → IsBefore t us k w i → i < 4 → 4 * home t.buckets k + i ≡ w → IsNext t us k w
next_here t us k w i b lt is = inl (inl (i, lt, sym is, b.passes))

-- entry i is not the word, and was not passed
pub next_none : (t : Table) (us : List ℕ) (k w i : ℕ) → IsBefore t us k w i → i < 4 → 4 * home t.buckets k + i ≢ w
    → ((0 < key_word (shown t us) (4 * home t.buckets k + i)) × (key_word (shown t us) (4 * home t.buckets k + i) ≢ k) → ⊥) → IsNext t us k w → ⊥
next_none t us k w i b lt ne stop (inl (inl m)) = elim (cases_lt m.0 i) [
  | inl less ↦ b.others m.0 less (sym m.2)
  | inr ge ↦ elim (cases_eq m.0 i) [
    | inl q ↦ ne (ap (λ (x : ℕ). 4 * home t.buckets k + x) (sym q) ∙ sym m.2)
    | inr other ↦ stop (m.3 i (omega arith))
  ]
]
next_none t us k w i b lt ne stop (inl (inr m)) = stop (m.3.0 i lt)
next_none t us k w i b lt ne stop (inr m) = stop (m.2.0 i lt)

-- all entries were passed
pub next_from_chain : (t : Table) (us : List ℕ) (k w : ℕ) → IsBefore t us k w 4 → IsOnChain t us k (home t.buckets k) w → IsNext t us k w
next_from_chain t us k w b o = elim o.3 [
  | inl q ↦ inr (o.1, q, (b.passes, (o.0, o.2)))
  | inr m ↦ inl (inr (o.1, m.0, m.1, (b.passes, (o.0, o.2)), m.2))
]

pub chain_from_next : (t : Table) (us : List ℕ) (k w : ℕ) → IsBefore t us k w 4 → IsNext t us k w → IsOnChain t us k (home t.buckets k) w
chain_from_next t us k w b (inl (inl m)) = absurd (b.others m.0 m.1 (sym m.2))
chain_from_next t us k w b (inl (inr m)) = (m.3.1.0, m.0, m.3.1.1, inr (m.1, m.2, m.4))
chain_from_next t us k w b (inr m) = (m.2.1.0, m.0, m.2.1.1, inl m.1)
