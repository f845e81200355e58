-- The highest linked node moves to a hole.
use Rattle.std.proofs.Common.{◌≡◌, ◌≢◌, ℕ, suc, ◌+◌, ◌*◌, ◌^◌, ◌<◌, ◌≤◌, List, [], ◌∷◌, ◌++◌, length, refl, sym, ap, ◌∙◌, arith, inl, inr, get_or, set, subst}
use Rattle.std.specs.Prelude.{◌⊎◌}
use Rattle.std.proofs.lemmas.Bool.{cases_eq, cases_lt}
use Rattle.std.proofs.lemmas.List.{get_or-set_same, get_or-set_other, length-set}
use Rattle.spatial_hash.specs.Hash.{home}
use Rattle.spatial_hash.specs.Table.{Table, entries_in, key_word, link_word}
use Rattle.spatial_hash.specs.Changes.{taken_to, renumbered}
use Rattle.spatial_hash.specs.Sound.{IsStep, Leads, EndsAt, IsSoundBut}
use Rattle.spatial_hash.proofs.Maps.{Unlike}
use Rattle.spatial_hash.proofs.Homes.{home_low}
use Rattle.spatial_hash.proofs.Extending.{leads_more, last_link}
use Rattle.spatial_hash.proofs.Chains.{few_below, once_on, step_on, one_way, one_before, rest_after}
use Rattle.spatial_hash.proofs.Removing.{key_last, key_other, key_here, taken_named, taken_differ}

module _ (t : Table) (h n m q : ℕ) (s : IsSoundBut t (λ x. x ≡ n)) (lh : h < t.buckets) (lm : m < t.linked) (nm : m ≢ n)
    (qs : List ℕ) (before : Leads t h h qs q) (here : IsStep t h q m) where
  abbrev pub moved : Table
  moved = renumbered t n m q

  abbrev first : Table
  first = taken_to t (4 * t.buckets + n) (4 * t.buckets + m)

  ln : n < t.linked
  ln = (s.hole n refl).0

  many : t.linked ≤ t.nodes
  many = s.few_linked

  -- ---- links

  q_low : q < t.buckets + t.nodes
  q_low = elim (last_link t h qs h q before) [
    | inl e ↦ omega arith
    | inr x ↦ (let a : q ≡ t.buckets + x.0 = x.1.here in let b : x.0 < t.nodes = x.1.low in omega arith)
  ]

  q_n : q ≢ t.buckets + n
  q_n e = let a : link_word t q ≡ suc m = here.link in let b : link_word t q ≡ 0 = ap (link_word t) e ∙ (s.hole n refl).2 in absurd (omega arith)

  -- what follows node m
  rest : (zs : List ℕ) × (k : ℕ) × Leads t h (t.buckets + m) zs k × (link_word t k ≡ 0)
  rest =
      let e = (s.ends h lh).1 in
      let r = rest_after t h qs e.over h q m (s.ends h lh).0 before here e.leads e.none in
      (r.0, (s.ends h lh).0, r.1, e.none)

  q_m : q ≢ t.buckets + m
  q_m e =
      let P : ℕ → Type 0 = λ x. IsStep t h x m in
      let again : IsStep t h (t.buckets + m) m = subst P e here in
      let same : rest.0 ≡ m ∷ rest.0 = one_way t h h (t.buckets + m) rest.0 (m ∷ rest.0) rest.1 rest.1 rest.2 rest.3 (again, rest.2) rest.3 in
      let l : length rest.0 ≡ suc (length rest.0) = ap length same in
      absurd (omega arith)

  no_loop : (g : ℕ) → IsStep t g (t.buckets + m) m → ⊥
  no_loop g r =
      let again : IsStep t h (t.buckets + m) m = record { link = r.link; low = r.low; filled = r.filled; at_home = here.at_home } in
      let same : rest.0 ≡ m ∷ rest.0 = one_way t h h (t.buckets + m) rest.0 (m ∷ rest.0) rest.1 rest.1 rest.2 rest.3 (again, rest.2) rest.3 in
      let l : length rest.0 ≡ suc (length rest.0) = ap length same in
      absurd (omega arith)

  -- ---- words

  key_first : (d : ℕ) → d < entries_in t → key_word moved d ≡ key_word first d
  key_first d l =
      get_or-set_other (set (set first.words (4 * t.buckets + t.nodes + (t.buckets + n)) (link_word t (t.buckets + m))) (4 * t.buckets + t.nodes + (t.buckets + m)) 0) (4 * t.buckets + t.nodes + q) d (n + 1) 0 (λ e. absurd (omega arith))
      ∙ get_or-set_other (set first.words (4 * t.buckets + t.nodes + (t.buckets + n)) (link_word t (t.buckets + m))) (4 * t.buckets + t.nodes + (t.buckets + m)) d 0 0 (λ e. absurd (omega arith))
      ∙ get_or-set_other first.words (4 * t.buckets + t.nodes + (t.buckets + n)) d (link_word t (t.buckets + m)) 0 (λ e. absurd (omega arith))

  pub key_to : key_word moved (4 * t.buckets + n) ≡ key_word t (4 * t.buckets + m)
  key_to = let a = ln in let b = many in key_first (4 * t.buckets + n) (omega arith) ∙ key_here t (4 * t.buckets + n) (4 * t.buckets + m) s.wide (omega arith) (omega arith) (λ e. nm (omega arith))

  pub key_from : key_word moved (4 * t.buckets + m) ≡ 0
  key_from = let a = ln in let b = many in key_first (4 * t.buckets + m) (omega arith) ∙ key_last t (4 * t.buckets + n) (4 * t.buckets + m) s.wide (omega arith) (omega arith)

  pub key_kept : (d : ℕ) → d < entries_in t → d ≢ 4 * t.buckets + n → d ≢ 4 * t.buckets + m → key_word moved d ≡ key_word t d
  key_kept d l x y = let a = ln in let b = many in key_first d l ∙ key_other t (4 * t.buckets + n) (4 * t.buckets + m) s.wide (omega arith) (omega arith) d x y

  first_length : length first.words ≡ 5 * t.buckets + 2 * t.nodes
  first_length = length-set (set t.words (4 * t.buckets + n) (key_word t (4 * t.buckets + m))) (4 * t.buckets + m) 0 ∙ length-set t.words (4 * t.buckets + n) (key_word t (4 * t.buckets + m)) ∙ s.wide

  link_first : (j : ℕ) → link_word first j ≡ link_word t j
  link_first j = let a = ln in let b = many in key_other t (4 * t.buckets + n) (4 * t.buckets + m) s.wide (omega arith) (omega arith) (4 * t.buckets + t.nodes + j) (λ e. absurd (omega arith)) (λ e. absurd (omega arith))

  abbrev second : List ℕ
  second = set first.words (4 * t.buckets + t.nodes + (t.buckets + n)) (link_word t (t.buckets + m))

  abbrev third : List ℕ
  third = set second (4 * t.buckets + t.nodes + (t.buckets + m)) 0

  second_length : length second ≡ 5 * t.buckets + 2 * t.nodes
  second_length = length-set first.words (4 * t.buckets + t.nodes + (t.buckets + n)) (link_word t (t.buckets + m)) ∙ first_length

  third_length : length third ≡ 5 * t.buckets + 2 * t.nodes
  third_length = length-set second (4 * t.buckets + t.nodes + (t.buckets + m)) 0 ∙ second_length

  link_q : link_word moved q ≡ suc n
  link_q =
      let a = q_low in let b = third_length in let c : n + 1 ≡ suc n = omega arith in
      get_or-set_same third (4 * t.buckets + t.nodes + q) (n + 1) 0 (omega arith) ∙ c

  link_m : link_word moved (t.buckets + m) ≡ 0
  link_m =
      let a = second_length in let b = many in
      get_or-set_other third (4 * t.buckets + t.nodes + q) (4 * t.buckets + t.nodes + (t.buckets + m)) (n + 1) 0 (λ e. q_m (omega arith))
      ∙ get_or-set_same second (4 * t.buckets + t.nodes + (t.buckets + m)) 0 0 (omega arith)

  link_n : link_word moved (t.buckets + n) ≡ link_word t (t.buckets + m)
  link_n =
      let a = first_length in let b = many in let c = ln in
      get_or-set_other third (4 * t.buckets + t.nodes + q) (4 * t.buckets + t.nodes + (t.buckets + n)) (n + 1) 0 (λ e. q_n (omega arith))
      ∙ get_or-set_other second (4 * t.buckets + t.nodes + (t.buckets + m)) (4 * t.buckets + t.nodes + (t.buckets + n)) 0 0 (λ e. nm (omega arith))
      ∙ get_or-set_same first.words (4 * t.buckets + t.nodes + (t.buckets + n)) (link_word t (t.buckets + m)) 0 (omega arith)

  link_kept : (j : ℕ) → j ≢ q → j ≢ t.buckets + n → j ≢ t.buckets + m → link_word moved j ≡ link_word t j
  link_kept j x y z =
      get_or-set_other third (4 * t.buckets + t.nodes + q) (4 * t.buckets + t.nodes + j) (n + 1) 0 (λ e. x (omega arith))
      ∙ get_or-set_other second (4 * t.buckets + t.nodes + (t.buckets + m)) (4 * t.buckets + t.nodes + j) 0 0 (λ e. z (omega arith))
      ∙ get_or-set_other first.words (4 * t.buckets + t.nodes + (t.buckets + n)) (4 * t.buckets + t.nodes + j) (link_word t (t.buckets + m)) 0 (λ e. y (omega arith))
      ∙ link_first j

  freed : (x : ℕ) → t.linked ≤ x → x < t.nodes → (key_word moved (4 * t.buckets + x) ≡ 0) × (link_word moved (t.buckets + x) ≡ 0)
  freed x le lt =
      let a = ln in
      let f = s.free x le lt in (
        key_kept (4 * t.buckets + x) (omega arith) (λ z. absurd (omega arith)) (λ z. absurd (omega arith)) ∙ f.0,
        link_kept (t.buckets + x) (λ z. (let b : link_word t (t.buckets + x) ≡ suc m = ap (link_word t) z ∙ here.link in let c : link_word t (t.buckets + x) ≡ 0 = f.1 in absurd (omega arith)))
            (λ z. absurd (omega arith)) (λ z. absurd (omega arith)) ∙ f.1,
      )

  -- ---- chains

  -- a node, and a link, with its new number
  abbrev Node : ℕ → ℕ → Type 0
  Node x y = ((x ≡ m) × (y ≡ n)) ⊎ ((x ≢ m) × (y ≡ x))

  abbrev Link : ℕ → ℕ → Type 0
  Link j i = ((j ≡ t.buckets + m) × (i ≡ t.buckets + n)) ⊎ ((j ≢ t.buckets + m) × (i ≡ j))

  node : (x : ℕ) → (y : ℕ) × Node x y
  node x = elim (cases_eq x m) [ inl e ↦ (n, inl (e, refl)) | inr ne ↦ (x, inr (ne, refl)) ]

  link_of : (x y : ℕ) → Node x y → Link (t.buckets + x) (t.buckets + y)
  link_of x y c = elim c [ inl e ↦ inl (ap (λ (z : ℕ). t.buckets + z) e.0, ap (λ (z : ℕ). t.buckets + z) e.1) | inr e ↦ inr ((λ z. e.0 (omega arith)), ap (λ (z : ℕ). t.buckets + z) e.1) ]

  -- node n is on no chain
  not_n : (g j x : ℕ) → IsStep t g j x → x ≢ n
  not_n g j x r e = let f : 0 < key_word t (4 * t.buckets + x) = r.filled in let z : key_word t (4 * t.buckets + x) ≡ 0 = ap (λ (y : ℕ). key_word t (4 * t.buckets + y)) e ∙ (s.hole n refl).1 in absurd (omega arith)

  -- the link that leads to node m
  only_q : (g : ℕ) (ws : List ℕ) (j : ℕ) → Leads t g g ws j → IsStep t g j m → j ≡ q
  only_q g ws j a r =
      let hh : g ≡ h = sym r.at_home ∙ here.at_home in
      let P : ℕ → Type 0 = λ y. Leads t y y ws j in
      let Q : ℕ → Type 0 = λ y. IsStep t y j m in
      one_before t h m ws qs rest.0 h j q rest.1 (subst P hh a) (subst Q hh r) before here rest.2 rest.3

  link_step : (g : ℕ) (ws : List ℕ) (j i x y : ℕ) → Leads t g g ws j → IsStep t g j x → Link j i → Node x y → link_word moved i ≡ suc y
  link_step g ws j i x y a r li nd =
      let f : link_word t j ≡ suc x = r.link in
      elim li [
        | inl e ↦ elim nd [
          | inl u ↦ (let R : ℕ → ℕ → Type 0 = λ b c. IsStep t g b c in absurd (no_loop g (subst (λ (c : ℕ). R (t.buckets + m) c) u.0 (subst (λ (b : ℕ). R b x) e.0 r))))
          | inr u ↦ ap (link_word moved) e.1 ∙ link_n ∙ ap (link_word t) (sym e.0) ∙ f ∙ ap suc (sym u.1)
        ]
        | inr e ↦ elim nd [
          | inl u ↦ (let R : ℕ → Type 0 = λ c. IsStep t g j c in let jq : j ≡ q = only_q g ws j a (subst R u.0 r) in ap (link_word moved) (e.1 ∙ jq) ∙ link_q ∙ ap suc (sym u.1))
          | inr u ↦ (
              let jq : j ≢ q = λ z. (let b : link_word t q ≡ suc x = ap (link_word t) (sym z) ∙ f in let c : link_word t q ≡ suc m = here.link in u.0 (omega arith)) in
              let jn : j ≢ t.buckets + n = λ z. (let b : link_word t j ≡ 0 = ap (link_word t) z ∙ (s.hole n refl).2 in absurd (omega arith)) in
              ap (link_word moved) e.1 ∙ link_kept j jq jn e.0 ∙ f ∙ ap suc (sym u.1))
        ]
      ]

  step : (g : ℕ) (ws : List ℕ) (j i x y : ℕ) → Leads t g g ws j → IsStep t g j x → Link j i → Node x y → IsStep moved g i y
  step g ws j i x y a r li nd =
      let b = ln in let c = many in
      elim nd [
        | inl u ↦ (
            let k : key_word moved (4 * t.buckets + y) ≡ key_word t (4 * t.buckets + x) = ap (λ (z : ℕ). key_word moved (4 * t.buckets + z)) u.1 ∙ key_to ∙ ap (λ (z : ℕ). key_word t (4 * t.buckets + z)) (sym u.0) in
            let f : 0 < key_word t (4 * t.buckets + x) = r.filled in
            let yn : y ≡ n = u.1 in
            record { link = link_step g ws j i x y a r li (inl u); low = omega arith; filled = omega arith; at_home = ap (home t.buckets) k ∙ r.at_home })
        | inr u ↦ (
            let xl : x < t.nodes = r.low in
            let xm : x ≢ m = u.0 in
            let xn : x ≢ n = not_n g j x r in
            let k : key_word moved (4 * t.buckets + y) ≡ key_word t (4 * t.buckets + x) = ap (λ (z : ℕ). key_word moved (4 * t.buckets + z)) u.1 ∙ key_kept (4 * t.buckets + x) (omega arith) (λ z. xn (omega arith)) (λ z. xm (omega arith)) in
            let f : 0 < key_word t (4 * t.buckets + x) = r.filled in
            let yx : y ≡ x = u.1 in
            record { link = link_step g ws j i x y a r li (inr u); low = omega arith; filled = omega arith; at_home = ap (home t.buckets) k ∙ r.at_home })
      ]

  leads : (g : ℕ) (ws xs : List ℕ) (j i k : ℕ) → Leads t g g ws j → Leads t g j xs k → Link j i → (ys : List ℕ) × (l : ℕ) × Link k l × Leads moved g i ys l
  leads g ws [] j i k a r li = let P : ℕ → Type 0 = λ z. Link z i in ([], i, subst P r li, refl)
  leads g ws (x ∷ xs) j i k a r li =
      let y = node x in
      let on = leads g (ws ++ x ∷ []) xs (t.buckets + x) (t.buckets + y.0) k (leads_more t g ws g j x a r.0) r.1 (link_of x y.0 y.1) in
      (y.0 ∷ on.0, on.1, on.2, (step g ws j i x y.0 a r.0 li y.1, on.3))

  from_bucket : (g : ℕ) → g < t.buckets → Link g g
  from_bucket g lt = inr ((λ e. absurd (omega arith)), refl)

  end_not_n : (g k : ℕ) → g < t.buckets → (xs : List ℕ) → Leads t g g xs k → k ≢ t.buckets + n
  end_not_n g k lt xs r e =
      elim (last_link t g xs g k r) [
        | inl u ↦ absurd (omega arith)
        | inr u ↦ (
            let a : k ≡ t.buckets + u.0 = u.1.here in
            let same : u.0 ≡ n = omega arith in
            let f : 0 < key_word t (4 * t.buckets + u.0) = u.1.filled in
            let z : key_word t (4 * t.buckets + u.0) ≡ 0 = ap (λ (y : ℕ). key_word t (4 * t.buckets + y)) same ∙ (s.hole n refl).1 in
            absurd (omega arith))
      ]

  ended : (g k : ℕ) → g < t.buckets → EndsAt t g k → (l : ℕ) × EndsAt moved g l
  ended g k lt r =
      let on = leads g [] r.over g g k refl r.leads (from_bucket g lt) in
      let none : link_word moved on.1 ≡ 0 = elim on.2 [
        | inl u ↦ ap (link_word moved) u.1 ∙ link_n ∙ ap (link_word t) (sym u.0) ∙ r.none
        | inr u ↦ (
            let kq : k ≢ q = λ z. (let a : link_word t k ≡ 0 = r.none in let b : link_word t k ≡ suc m = ap (link_word t) z ∙ here.link in absurd (omega arith)) in
            ap (link_word moved) u.1 ∙ link_kept k kq (end_not_n g k lt r.over r.leads) u.0 ∙ r.none)
      ] in (
        on.1,
        record {
          over = on.0;
          leads = on.3;
          none = none;
          few = few_below t.linked on.0 (once_on moved g on.0 g on.1 on.3 none) (λ x a. (let y = step_on moved g on.0 g on.1 x on.3 a in
              elim (cases_lt x t.linked) [ inl l ↦ l | inr ge ↦ (let z : key_word moved (4 * t.buckets + x) ≡ 0 = (freed x ge y.0).0 in let f : 0 < key_word moved (4 * t.buckets + x) = y.1 in absurd (omega arith)) ]));
        },
      )

  -- the chain to a node
  reached : (x : ℕ) → x < t.linked → x ≢ m → (ns : List ℕ) × Leads moved (home t.buckets (key_word moved (4 * t.buckets + x))) (home t.buckets (key_word moved (4 * t.buckets + x))) ns (t.buckets + x)
  reached x lx xm =
      let b = many in
      let P : ℕ → Type 0 = λ g. (ns : List ℕ) × Leads moved g g ns (t.buckets + x) in
      elim (cases_eq x n) [
        | inl e ↦ (
            let Q : ℕ → Type 0 = λ z. (ns : List ℕ) × Leads moved h h ns z in
            let on = leads h [] qs h h q refl before (from_bucket h lh) in
            let k : key_word moved (4 * t.buckets + x) ≡ key_word t (4 * t.buckets + m) = ap (λ (z : ℕ). key_word moved (4 * t.buckets + z)) e ∙ key_to in
            let g : home t.buckets (key_word moved (4 * t.buckets + x)) ≡ h = ap (home t.buckets) k ∙ here.at_home in
            let st : IsStep moved h on.1 n = step h qs q on.1 m n before here on.2 (inl (refl, refl)) in
            let to : Q (t.buckets + n) = (on.0 ++ n ∷ [], leads_more moved h on.0 h on.1 n on.3 st) in
            subst P (sym g) (subst (λ (z : ℕ). Q (t.buckets + z)) (sym e) to))
        | inr xn ↦ (
            let r = s.reached x lx xn in
            let g = home t.buckets (key_word t (4 * t.buckets + x)) in
            let filled : 0 < key_word t (4 * t.buckets + x) = s.placed x lx xn in
            let k : key_word moved (4 * t.buckets + x) ≡ key_word t (4 * t.buckets + x) = key_kept (4 * t.buckets + x) (omega arith) (λ z. xn (omega arith)) (λ z. xm (omega arith)) in
            let gb : home t.buckets (key_word t (4 * t.buckets + x)) < t.buckets = home_low t.buckets (key_word t (4 * t.buckets + x)) s.some_buckets in
            let on = leads g [] r.0 g g (t.buckets + x) refl r.1 (from_bucket g gb) in
            let Q : ℕ → Type 0 = λ z. (ns : List ℕ) × Leads moved g g ns z in
            let to : Q on.1 = (on.0, on.3) in
            let here-is : on.1 ≡ t.buckets + x = elim on.2 [ inl u ↦ absurd (xm (let y : t.buckets + x ≡ t.buckets + m = u.0 in omega arith)) | inr u ↦ u.1 ] in
            subst P (ap (home t.buckets) (sym k)) (subst Q here-is to))
      ]

  placed : (x : ℕ) → x < t.linked → x ≢ m → 0 < key_word moved (4 * t.buckets + x)
  placed x lx xm =
      let b = many in
      elim (cases_eq x n) [
        | inl e ↦ (
            let k : key_word moved (4 * t.buckets + x) ≡ key_word t (4 * t.buckets + m) = ap (λ (z : ℕ). key_word moved (4 * t.buckets + z)) e ∙ key_to in
            let f : 0 < key_word t (4 * t.buckets + m) = here.filled in omega arith)
        | inr xn ↦ (
            let k : key_word moved (4 * t.buckets + x) ≡ key_word t (4 * t.buckets + x) = key_kept (4 * t.buckets + x) (omega arith) (λ z. xn (omega arith)) (λ z. xm (omega arith)) in
            let f : 0 < key_word t (4 * t.buckets + x) = s.placed x lx xn in omega arith)
      ]

  bucket_key : (g i : ℕ) → g < t.buckets → i < 4 → key_word moved (4 * g + i) ≡ key_word t (4 * g + i)
  bucket_key g i lt li = key_kept (4 * g + i) (omega arith) (λ z. absurd (omega arith)) (λ z. absurd (omega arith))

  fulls : (g : ℕ) → g < t.buckets → 0 < link_word moved g → 0 < key_word moved (4 * g + 3)
  fulls g lt f =
      let k : key_word moved (4 * g + 3) ≡ key_word t (4 * g + 3) = bucket_key g 3 lt (omega arith) in
      let o : 0 < link_word t g = elim (cases_eq g q) [
        | inl e ↦ (let a : link_word t g ≡ suc m = ap (link_word t) e ∙ here.link in omega arith)
        | inr ne ↦ (let a : link_word moved g ≡ link_word t g = link_kept g ne (λ z. absurd (omega arith)) (λ z. absurd (omega arith)) in omega arith)
      ] in
      let r : 0 < key_word t (4 * g + 3) = s.full g lt o in omega arith

  moved_differ : Unlike moved
  moved_differ a b la lb f same =
      let u = ln in let v = many in
      let ka : key_word moved a ≡ key_word first a = key_first a la in
      taken_differ t (4 * t.buckets + n) (4 * t.buckets + m) s.wide (omega arith) (omega arith) s.differ a b la lb (omega arith) (sym ka ∙ same ∙ key_first b lb)

  pub moved_sound : IsSoundBut moved (λ x. x ≡ m)
  moved_sound = record {
    some_buckets = s.some_buckets;
    few_buckets = s.few_buckets;
    few_nodes = s.few_nodes;
    few_linked = s.few_linked;
    wide = length-set third (4 * t.buckets + t.nodes + q) (n + 1) ∙ third_length;
    long = length-set t.cells (4 * t.buckets + n) (get_or t.cells (4 * t.buckets + m) 0) ∙ s.long;
    named = λ d lt. (let u = ln in let v = many in let k : key_word moved d ≡ key_word first d = key_first d lt in let b : key_word first d ≤ 2 ^ 48 = taken_named t (4 * t.buckets + n) (4 * t.buckets + m) s.wide (omega arith) (omega arith) s.named d lt in omega arith);
    differ = moved_differ;
    at_home = λ g i lt li f. (let k : key_word moved (4 * g + i) ≡ key_word t (4 * g + i) = bucket_key g i lt li in ap (home t.buckets) k ∙ s.at_home g i lt li (omega arith));
    prefix = λ g i lt li f. (
        let k : key_word moved (4 * g + suc i) ≡ key_word t (4 * g + suc i) = bucket_key g (suc i) lt (omega arith) in
        let k2 : key_word moved (4 * g + i) ≡ key_word t (4 * g + i) = bucket_key g i lt (omega arith) in
        let r : 0 < key_word t (4 * g + i) = s.prefix g i lt li (omega arith) in omega arith);
    full = fulls;
    ends = λ g lt. ended g (s.ends g lt).0 lt (s.ends g lt).1;
    placed = placed;
    reached = reached;
    hole = λ x e. (rw e lm, ap (λ (y : ℕ). key_word moved (4 * t.buckets + y)) e ∙ key_from, ap (λ (y : ℕ). link_word moved (t.buckets + y)) e ∙ link_m);
    free = freed;
  }
