-- A walk goes on by one word.
use Rattle.std.proofs.Common.{◌⊎◌, ◌≡◌, ◌≢◌, ℕ, suc, ◌+◌, ◌*◌, ◌<◌, eqb, List, [], ◌∷◌, ◌++◌, length, set, get_or, refl, sym, ap, ◌∙◌, arith, inl, inr, subst}
use Rattle.std.proofs.lemmas.Bool.{cases_eq, cond-false, ne_eqb}
use Rattle.std.proofs.lemmas.List.{get_or-set_same, get_or-set_other}
use Rattle.spatial_hash.specs.Table.{Table, key_word, link_word}
use Rattle.hash_share.specs.declared.view.View.{View}
use Rattle.fusion_core.specs.TouchSteps.{touched_after}
use Rattle.fusion_core.specs.TouchWords.{shown, Passes, LeadsPast}
use Rattle.hash_share.specs.Steps.{Held, found, put, IsKept, HasPair}
use Rattle.hash_share.specs.declared.spot.Spot.TheVariants.{Placed, Seen}
use Rattle.hash_share.specs.Touching.{SeesMore, IsSpot}

-- what was seen stays seen
abbrev pub Keeps : List ℕ → List ℕ → Type 0
Keeps us xs = (w : ℕ) → 0 < get_or us w 0 → get_or xs w 0 ≡ get_or us w 0

pub keeps-set : (us : List ℕ) (w r : ℕ) → w < length us → IsKept us w r → Keeps us (set us w r)
keeps-set us w r lt kept a p = elim (cases_eq a w) [
  | inl q ↦ (
      let here : get_or (set us w r) a 0 ≡ r = ap (λ (x : ℕ). get_or (set us w r) x 0) q ∙ get_or-set_same us w r 0 lt in
      let e : get_or us a 0 ≡ get_or us w 0 = ap (λ (x : ℕ). get_or us x 0) q in
      here ∙ kept (omega arith) ∙ sym e)
  | inr ne ↦ get_or-set_other us w a r 0 ne
]

pub passes-kept : (t : Table) (us xs : List ℕ) (k h i : ℕ) → Keeps us xs → Passes (shown t us) k h i → Passes (shown t xs) k h i
passes-kept t us xs k h i keep p a lt =
    let o = p a lt in
    let e : get_or xs (4 * h + a) 0 ≡ get_or us (4 * h + a) 0 = keep (4 * h + a) o.0 in
    let o0 : 0 < get_or us (4 * h + a) 0 = o.0 in
    ((let q : 0 < get_or xs (4 * h + a) 0 = omega arith in q), λ q. o.1 (sym e ∙ q))

pub sees-kept : (t : Table) (us xs : List ℕ) (k : ℕ) → Keeps us xs → (vs : List ℕ) (j l : ℕ) → LeadsPast (shown t us) k j vs l → LeadsPast (shown t xs) k j vs l
sees-kept t us xs k keep [] j l s = s
sees-kept t us xs k keep (v ∷ vs) j l s =
    let e : get_or us (4 * t.buckets + t.nodes + j) 0 ≡ suc v = s.0 in
    let f : get_or xs (4 * t.buckets + t.nodes + j) 0 ≡ get_or us (4 * t.buckets + t.nodes + j) 0 = keep (4 * t.buckets + t.nodes + j) (omega arith) in
    let p : 0 < get_or us (4 * t.buckets + v) 0 = s.1 in
    let g : get_or xs (4 * t.buckets + v) 0 ≡ get_or us (4 * t.buckets + v) 0 = keep (4 * t.buckets + v) p in
    (f ∙ e, (let q : 0 < get_or xs (4 * t.buckets + v) 0 = omega arith in q), (λ q. s.2 (sym g ∙ q)), sees-kept t us xs k keep vs (t.buckets + v) l s.3)

-- one entry more was passed
pub passes_more : (t : Table) (us : List ℕ) (k h i r : ℕ) → 4 * h + i < length us → IsKept us (4 * h + i) r → 0 < r → r ≢ k → Passes (shown t us) k h i → Passes (shown t (set us (4 * h + i) r)) k h (i + 1)
passes_more t us k h i r lt kept some ne p a la =
    elim (cases_eq a i) [
      | inl q ↦ (
          let xs : List ℕ = set us (4 * h + i) r in
          let here : get_or xs (4 * h + a) 0 ≡ r = ap (λ (x : ℕ). get_or xs (4 * h + x) 0) q ∙ get_or-set_same us (4 * h + i) r 0 lt in
          ((let z : 0 < get_or xs (4 * h + a) 0 = omega arith in z), λ z. ne (sym here ∙ z)))
      | inr other ↦ passes-kept t us (set us (4 * h + i) r) k h i (keeps-set us (4 * h + i) r lt kept) p a (omega arith)
    ]

-- one node more was seen
pub sees-more : (t : Table) (k : ℕ) (vs : List ℕ) (j l n : ℕ) → LeadsPast t k j vs l → link_word t l ≡ suc n → 0 < key_word t (4 * t.buckets + n) → key_word t (4 * t.buckets + n) ≢ k → LeadsPast t k j (vs ++ n ∷ []) (t.buckets + n)
sees-more t k [] j l n s e f ne = (ap (link_word t) s ∙ e, f, ne, refl)
sees-more t k (v ∷ vs) j l n s e f ne = (s.0, s.1, s.2, sees-more t k vs (t.buckets + v) l n s.3 e f ne)

-- another key that was seen is not touched
pub other_entry : (k e r : ℕ) (t : List (ℕ × ℕ)) → r ≢ k → touched_after k e r t ≡ t
other_entry k e r t ne = cond-false (eqb r k) _ _ (ne_eqb r k ne)

-- another key was seen
abbrev pub passed : ℕ → ℕ → View → View
passed e r v = record v { seen = set v.seen e r; looks = (e, r) ∷ v.looks }

pub found_other : (k e r : ℕ) (v : View) → r ≢ k → found k e r v ≡ passed e r v
found_other k e r v ne = ap (λ (t : List (ℕ × ℕ)). record (passed e r v) { touched = t }) (other_entry k e r v.touched ne)

-- ---- a bucket

pub sees_none : (v : View) → SeesMore v v
sees_none v = record { view = refl; later = []; looks = refl }

pub sees_next : (k e r : ℕ) (v : View) (m n : Held) → SeesMore v m.0 → n ≡ (found k e r m.0, m.1) → r ≢ k → SeesMore v n.0
sees_next k e r v m n s is ne =
    let q : n.0 ≡ passed e r m.0 = ap (λ (h : Held). h.0) is ∙ found_other k e r m.0 ne in
    let us : n.0.seen ≡ set m.0.seen e r = ap (λ (z : View). z.seen) q in
    let ls : n.0.looks ≡ (e, r) ∷ m.0.looks = ap (λ (z : View). z.looks) q in
    let F : List ℕ → List (ℕ × ℕ) → View = λ xs ys. record v { seen = xs; looks = ys } in
    record {
      view = q ∙ ap (passed e r) s.view ∙ ap (λ (xs : List ℕ). F xs ((e, r) ∷ m.0.looks)) (sym us) ∙ ap (F n.0.seen) (sym ls);
      later = (e, r) ∷ s.later;
      looks = ls ∙ ap (λ (l : List (ℕ × ℕ)). (e, r) ∷ l) s.looks;
    }

pub passes_next : (t : Table) (k h i r : ℕ) (m n : Held) → n ≡ (found k (4 * h + i) r m.0, m.1) → 4 * h + i < length m.0.seen → IsKept m.0.seen (4 * h + i) r → 0 < r → r ≢ k → Passes (shown t m.0.seen) k h i → Passes (shown t n.0.seen) k h (i + 1)
passes_next t k h i r m n is lt kept some ne p =
    let us : n.0.seen ≡ set m.0.seen (4 * h + i) r = ap (λ (z : Held). z.0.seen) is in
    subst (λ (xs : List ℕ). Passes (shown t xs) k h (i + 1)) (sym us) (passes_more t m.0.seen k h i r lt kept some ne p)

pub spot_placed : (k e r : ℕ) (v : View) (m n : Held) → SeesMore v m.0 → n ≡ (put k e m.0, m.1) → e < length m.0.seen → r ≡ 0 → ((r ≡ 0) ⊎ (r ≡ k) → HasPair k e n.0) → IsSpot k v n.0 (Placed e)
spot_placed k e r v m n s is lt zero_there pair =
    let F : List ℕ → List (ℕ × ℕ) → View = λ xs ys. record v { seen = xs; looks = ys; touched = touched_after k e k v.touched; placed = v.placed ++ k ∷ [] } in
    let q : n.0 ≡ F (set m.0.seen e k) m.0.looks = ap (λ (h : Held). h.0) is ∙ ap (put k e) s.view in
    let us : n.0.seen ≡ set m.0.seen e k = ap (λ (z : View). z.seen) q in
    let ls : n.0.looks ≡ m.0.looks = ap (λ (z : View). z.looks) q in
    (q ∙ ap (λ (xs : List ℕ). F xs m.0.looks) (sym us) ∙ ap (F n.0.seen) (sym ls), record { seen = ap (λ (xs : List ℕ). get_or xs e 0) us ∙ get_or-set_same m.0.seen e k 0 lt; pair = pair (inl zero_there) })

pub spot_seen : (k e r : ℕ) (v : View) (m n : Held) → SeesMore v m.0 → n ≡ (found k e r m.0, m.1) → r ≡ k → e < length m.0.seen → ((r ≡ 0) ⊎ (r ≡ k) → HasPair k e n.0) → IsSpot k v n.0 (Seen e)
spot_seen k e r v m n s is same lt pair =
    let F : List ℕ → List (ℕ × ℕ) → View = λ xs ys. record v { seen = xs; looks = ys; touched = touched_after k e k v.touched } in
    let q : n.0 ≡ F (set m.0.seen e k) ((e, k) ∷ m.0.looks) = ap (λ (h : Held). h.0) is ∙ ap (λ (x : ℕ). found k e x m.0) same ∙ ap (found k e k) s.view in
    let us : n.0.seen ≡ set m.0.seen e k = ap (λ (z : View). z.seen) q in
    let ls : n.0.looks ≡ (e, k) ∷ m.0.looks = ap (λ (z : View). z.looks) q in (
      q ∙ ap (λ (xs : List ℕ). F xs ((e, k) ∷ m.0.looks)) (sym us) ∙ ap (F n.0.seen) (sym ls),
      record { seen = ap (λ (xs : List ℕ). get_or xs e 0) us ∙ get_or-set_same m.0.seen e k 0 lt; pair = pair (inr same) },
      record { others = s.later; looks = ls ∙ ap (λ (l : List (ℕ × ℕ)). (e, k) ∷ l) s.looks },
    )
