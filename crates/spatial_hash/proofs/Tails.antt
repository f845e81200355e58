-- Walks over a chain to its last node, and to the link of a node.
use Rattle.std.proofs.Common.{◌≡◌, ◌≢◌, ℕ, suc, ◌+◌, ◌-◌, ◌*◌, ◌<◌, ◌≤◌, List, [], ◌∷◌, ◌++◌, length, refl, sym, ap, ◌∙◌, arith, inl, inr, get_or, subst}
use Rattle.std.proofs.lemmas.Bool.{cases_eq}
use Rattle.spatial_hash.specs.Hash.{home}
use Rattle.spatial_hash.specs.Table.{Table, key_word, link_word}
use Rattle.spatial_hash.specs.Sound.{IsStep, Leads, IsSound}
use Rattle.spatial_hash.specs.Removal.{IsBucketEnd, IsChainEnd, LeadsTo}
use Rattle.spatial_hash.proofs.Walks.{link_read}
use Rattle.spatial_hash.proofs.Homes.{home_low}
use Rattle.spatial_hash.proofs.Extending.{leads_more, last_link}
use Rattle.spatial_hash.proofs.Chains.{Among}

-- node n is reached from link j, and the chain goes on after it
pub record Tail (t : Table) (h n j i : ℕ) : Type 0 where
  pub over : List ℕ
  pub leads : Leads t h h over j
  pub step : IsStep t h j n
  pub later : List ℕ
  pub to : ℕ
  pub rest : Leads t h (t.buckets + n) later to
  pub none : link_word t to ≡ 0
  pub few : length later + i ≤ t.linked

tail_from : (t : Table) (h n : ℕ) (ns : List ℕ) (k : ℕ) → Leads t h h ns k → link_word t k ≡ 0 → length ns ≤ t.linked → link_word t h ≡ suc n → Tail t h n h 1
tail_from t h n [] k r z f e = let a : link_word t h ≡ 0 = ap (link_word t) r ∙ z in absurd (omega arith)
tail_from t h n (x ∷ ns) k r z f e =
    let a : link_word t h ≡ suc x = r.0.link in
    let xn : x ≡ n = omega arith in
    let P : ℕ → Type 0 = λ y. IsStep t h h y in
    let Q : ℕ → Type 0 = λ y. Leads t h (t.buckets + y) ns k in
    record { over = []; leads = refl; step = subst P xn r.0; later = ns; to = k; rest = subst Q xn r.1; none = z; few = omega arith }

pub tail_start : (t : Table) (h v : ℕ) → IsSound t → h < t.buckets → 0 < link_word t h → v ≡ get_or t.words (4 * t.buckets + t.nodes + h) v → Tail t h (v - 1) h 1
tail_start t h v s lt f e =
    let is : link_word t h ≡ v = link_read t h v s (omega arith) e in
    let at = (s.ends h lt).1 in
    tail_from t h (v - 1) at.over (s.ends h lt).0 at.leads at.none at.few (let p : link_word t h ≡ suc (v - 1) = omega arith in p)

tail_next_by : (t : Table) (h n j i v : ℕ) (over : List ℕ) → Leads t h h over j → IsStep t h j n → (ns : List ℕ) (k : ℕ) → Leads t h (t.buckets + n) ns k → link_word t k ≡ 0 → length ns + i ≤ t.linked → link_word t (t.buckets + n) ≡ v → v ≢ 0
    → Tail t h (v - 1) (t.buckets + n) (i + 1)
tail_next_by t h n j i v over a st [] k r z f e nz = absurd (nz (sym e ∙ ap (link_word t) r ∙ z))
tail_next_by t h n j i v over a st (x ∷ ns) k r z f e nz =
    let l : link_word t (t.buckets + n) ≡ suc x = r.0.link in
    let xv : x ≡ v - 1 = omega arith in
    let P : ℕ → Type 0 = λ y. IsStep t h (t.buckets + n) y in
    let Q : ℕ → Type 0 = λ y. Leads t h (t.buckets + y) ns k in
    record { over = over ++ n ∷ []; leads = leads_more t h over h j n a st; step = subst P xv r.0; later = ns; to = k; rest = subst Q xv r.1; none = z; few = omega arith }

pub tail_read : (t : Table) (h n j i v : ℕ) → IsSound t → Tail t h n j i → v ≡ get_or t.words (4 * t.buckets + t.nodes + t.buckets + n) v → link_word t (t.buckets + n) ≡ v
tail_read t h n j i v s a e =
    let l : n < t.nodes = a.step.low in
    let same : 4 * t.buckets + t.nodes + t.buckets + n ≡ 4 * t.buckets + t.nodes + (t.buckets + n) = omega arith in
    link_read t (t.buckets + n) v s (omega arith) (e ∙ ap (λ (x : ℕ). get_or t.words x v) same)

pub tail_next : (t : Table) (h n j i v : ℕ) → IsSound t → Tail t h n j i → v ≡ get_or t.words (4 * t.buckets + t.nodes + t.buckets + n) v → v ≢ 0 → Tail t h (v - 1) (t.buckets + n) (i + 1)
tail_next t h n j i v s a e nz = tail_next_by t h n j i v a.over a.leads a.step a.later a.to a.rest a.none a.few (tail_read t h n j i v s a e) nz

-- ---- the link to a node

-- node n is on what is left of its chain
pub record Ahead (t : Table) (h n j i : ℕ) : Type 0 where
  pub over : List ℕ
  pub leads : Leads t h h over j
  pub later : List ℕ
  pub to : ℕ
  pub rest : Leads t h j later to
  pub none : link_word t to ≡ 0
  pub among : Among n later
  pub few : length later + i ≤ t.linked + 1

on_chain : (t : Table) (h n : ℕ) (ns vs : List ℕ) (j k : ℕ) → Leads t h j ns (t.buckets + n) → j ≢ t.buckets + n → Leads t h j vs k → link_word t k ≡ 0 → Among n vs
on_chain t h n [] vs j k a ne b z = absurd (ne a)
on_chain t h n (x ∷ ns) [] j k a ne b z = let e : link_word t j ≡ suc x = a.0.link in let f : link_word t j ≡ 0 = ap (link_word t) b ∙ z in absurd (omega arith)
on_chain t h n (x ∷ ns) (y ∷ vs) j k a ne b z =
    let e : link_word t j ≡ suc x = a.0.link in
    let f : link_word t j ≡ suc y = b.0.link in
    let yx : y ≡ x = omega arith in
    elim (cases_eq x n) [
      | inl q ↦ inl (yx ∙ q)
      | inr nq ↦ (
          let P : ℕ → Type 0 = λ w. Leads t h (t.buckets + w) vs k in
          inr (on_chain t h n ns vs (t.buckets + x) k a.1 (λ w. nq (omega arith)) (subst P yx b.1) z))
    ]

pub ahead_start : (t : Table) (n : ℕ) → IsSound t → n < t.linked → Ahead t (home t.buckets (key_word t (4 * t.buckets + n))) n (home t.buckets (key_word t (4 * t.buckets + n))) 1
ahead_start t n s lt =
    let h = home t.buckets (key_word t (4 * t.buckets + n)) in
    let lh : home t.buckets (key_word t (4 * t.buckets + n)) < t.buckets = home_low t.buckets (key_word t (4 * t.buckets + n)) s.some_buckets in
    let at = (s.ends h lh).1 in
    let r = s.reached n lt (λ h. h) in
    let f : length at.over ≤ t.linked = at.few in
    record {
      over = [];
      leads = refl;
      later = at.over;
      to = (s.ends h lh).0;
      rest = at.leads;
      none = at.none;
      among = on_chain t h n r.0 at.over h (s.ends h lh).0 r.1 (λ e. absurd (omega arith)) at.leads at.none;
      few = omega arith;
    }

-- what is read at link j
pub record NodeAhead (t : Table) (h n j i v : ℕ) : Type 0 where
  pub some : 0 < v
  pub low : v - 1 < t.nodes
  pub hit : v - 1 ≡ n → LeadsTo t h n j
  pub past : v - 1 ≢ n → Ahead t h n (t.buckets + (v - 1)) (i + 1)

node_ahead_by : (t : Table) (h n j i v : ℕ) (over : List ℕ) → Leads t h h over j → (ns : List ℕ) (k : ℕ) → Leads t h j ns k → link_word t k ≡ 0 → Among n ns → length ns + i ≤ t.linked + 1 → link_word t j ≡ v → NodeAhead t h n j i v
node_ahead_by t h n j i v over a [] k r z m f e = absurd m
node_ahead_by t h n j i v over a (x ∷ ns) k r z m f e =
    let l : link_word t j ≡ suc x = r.0.link in
    let xv : x ≡ v - 1 = omega arith in
    let lx : x < t.nodes = r.0.low in
    let P : ℕ → Type 0 = λ y. IsStep t h j y in
    let Q : ℕ → Type 0 = λ y. Leads t h (t.buckets + y) ns k in
    let st : IsStep t h j (v - 1) = subst P xv r.0 in
    record {
      some = omega arith;
      low = omega arith;
      hit = λ q. record { over = over; leads = a; step = subst P q st };
      past = λ ne. record {
        over = over ++ (v - 1) ∷ [];
        leads = leads_more t h over h j (v - 1) a st;
        later = ns;
        to = k;
        rest = subst Q xv r.1;
        none = z;
        among = elim m [ inl q ↦ absurd (ne (sym xv ∙ q)) | inr w ↦ w ];
        few = omega arith;
      };
    }

pub ahead_low : (t : Table) (h n j i : ℕ) → h < t.buckets → Ahead t h n j i → j < t.buckets + t.nodes
ahead_low t h n j i lh a = elim (last_link t h a.over h j a.leads) [
  | inl e ↦ omega arith
  | inr x ↦ (let b : j ≡ t.buckets + x.0 = x.1.here in let c : x.0 < t.nodes = x.1.low in omega arith)
]

pub node_ahead : (t : Table) (h n j i v : ℕ) → IsSound t → h < t.buckets → Ahead t h n j i → v ≡ get_or t.words (4 * t.buckets + t.nodes + j) v → NodeAhead t h n j i v
node_ahead t h n j i v s lh a e = node_ahead_by t h n j i v a.over a.leads a.later a.to a.rest a.none a.among a.few (link_read t j v s (ahead_low t h n j i lh a) e)

ahead_out_by : (t : Table) (h n j i : ℕ) (over : List ℕ) → Leads t h h over j → (ns : List ℕ) (k : ℕ) → Leads t h j ns k → Among n ns → length ns + i ≤ t.linked + 1 → t.linked ≤ i → LeadsTo t h n j
ahead_out_by t h n j i over a [] k r m f le = absurd m
ahead_out_by t h n j i over a (x ∷ []) k r m f le = let P : ℕ → Type 0 = λ y. IsStep t h j y in elim m [ inl q ↦ record { over = over; leads = a; step = subst P q r.0 } | inr w ↦ absurd w ]
ahead_out_by t h n j i over a (x ∷ (y ∷ ns)) k r m f le = absurd (omega arith)

pub ahead_out : (t : Table) (h n j i : ℕ) → Ahead t h n j i → t.linked ≤ i → LeadsTo t h n j
ahead_out t h n j i a le = ahead_out_by t h n j i a.over a.leads a.later a.to a.rest a.among a.few le

-- ---- the last entry of a bucket

pub bucket_end : (t : Table) (h i : ℕ) → 1 ≤ i → i < 4 → ((j : ℕ) → j < i → 0 < key_word t (4 * h + j)) → key_word t (4 * h + i) ≡ 0 → IsBucketEnd t h (4 * h + i - 1)
bucket_end t h i low lt f z =
    let e : 4 * h + i - 1 ≡ 4 * h + (i - 1) = omega arith in
    let g : 0 < key_word t (4 * h + (i - 1)) = f (i - 1) (omega arith) in
    let s : 4 * h + suc (i - 1) ≡ 4 * h + i = omega arith in
    record { index = i - 1; low = omega arith; here = e; filled = rw e g; after = λ _. ap (key_word t) s ∙ z }
