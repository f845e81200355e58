-- A touch over a chain.
use Rattle.std.proofs.Common.{◌≡◌, ◌≢◌, ℕ, suc, ◌+◌, ◌*◌, ◌<◌, ◌≤◌, List, [], ◌∷◌, ◌++◌, length, length-append, set, get_or, Bool, refl, sym, ap, ◌∙◌, arith, inr, subst}
use Rattle.std.proofs.lemmas.List.{get_or-set_same, length-set}
use Rattle.spatial_hash.specs.Hash.{home}
use Rattle.spatial_hash.specs.Table.{Table, link_word, key_word}
use Rattle.hash_share.specs.declared.view.View.{View}
use Rattle.hash_share.specs.declared.hop.Hop.TheVariants.{Node, Linked, Out}
use Rattle.hash_share.specs.declared.touched.Touched.{Touched}
use Rattle.hash_share.specs.declared.touched.Touched.TheVariants.{New, Old, Spent}
use Rattle.fusion_core.specs.TouchSteps.{touched_after, IsNextKey, IsNextLink}
use Rattle.fusion_core.specs.TouchWords.{shown, counter_at, Passes, LeadsPast, link_at}
use Rattle.hash_share.specs.Steps.{Held, found, IsKept, HasPair}
use Rattle.hash_share.specs.Touching.{IsTied, IsHop, KeepsSeen, Roams, IsTouched, IsOn}
use Rattle.hash_share.proofs.Roaming.{roamed, roams-on}
use Rattle.hash_share.proofs.Walking.{keeps-set, passes-kept, sees-kept, sees-more, passed, found_other}

pub tied_found : (start : Table) (m n : Held) (spares : List ℕ) (marked : Bool) (k w r : ℕ) → IsTied start m spares marked → n ≡ (found k w r m.0, m.1) → IsTied start n spares marked
tied_found start m n spares marked k w r t is =
    let P : Held → Type 0 = λ x. IsTied start x spares marked in
    let now : P (found k w r m.0, m.1) = record { slots = t.slots; part = t.part; begun = t.begun; wide = length-set m.0.seen w r ∙ t.wide; nodes = t.nodes; low = t.low; has_mark = t.has_mark; no_mark = t.no_mark } in
    subst P (sym is) now

pub ahead_node : (k j a : ℕ) (v w : View) → IsHop k j v w (Node a) → IsNextLink v.start v.seen k j → IsNextKey w.start w.seen k (4 * w.start.buckets + a)
ahead_node k j a v w h r =
    let P : View → Type 0 = λ z. IsNextKey z.start w.seen k (4 * z.start.buckets + a) in
    let t : Table = v.start in
    let now : P (record v { seen = w.seen; nodes = w.nodes }) = inr (j, a, refl, (passes-kept t v.seen w.seen k (home t.buckets k) 4 h.3 r.0, (r.1.0, sees-kept t v.seen w.seen k h.3 r.1.0 (home t.buckets k) j r.1.1)), h.2) in
    subst P (sym h.0) now

roams-then : (v w x : View) (e r : ℕ) → w ≡ record v { seen = w.seen; nodes = w.nodes } → x ≡ passed e r w → Roams v x × (x.seen ≡ set w.seen e r)
roams-then v w x e r p q =
    let F : List ℕ → List (ℕ × ℕ) → List (ℕ × ℕ) → View = λ us ls ns. record v { seen = us; looks = ls; nodes = ns } in
    let is : x ≡ F (set w.seen e r) ((e, r) ∷ v.looks) w.nodes = q ∙ ap (passed e r) p in
    let us : x.seen ≡ set w.seen e r = ap (λ (z : View). z.seen) is in
    let ls : x.looks ≡ (e, r) ∷ v.looks = ap (λ (z : View). z.looks) is in
    let ns : x.nodes ≡ w.nodes = ap (λ (z : View). z.nodes) is in
    ((is ∙ ap (λ (l : List ℕ). F l ((e, r) ∷ v.looks) w.nodes) (sym us) ∙ ap (λ (l : List (ℕ × ℕ)). F x.seen l w.nodes) (sym ls) ∙ ap (F x.seen x.looks) (sym ns), ((e, r) ∷ [], ls)), us)

-- another key was seen in the node
pub on_node : (k j a r l : ℕ) (v w x : View) → IsHop k j v w (Node a) → x ≡ found k (4 * v.start.buckets + a) r w → length w.seen ≡ counter_at v.start + 1 → 0 < r → r ≢ k → IsKept w.seen (4 * v.start.buckets + a) r → l ≡ v.start.buckets + a → IsOn k j v x l
on_node k j a r l v w x h is wide some ne kept at =
    let e : ℕ = 4 * v.start.buckets + a in
    let low : a < v.start.nodes = h.1 in
    let q = roams-then v w x e r h.0 (is ∙ found_other k e r w ne) in
    let inside : e < length w.seen = omega arith in
    let here : get_or x.seen e 0 ≡ r = ap (λ (us : List ℕ). get_or us e 0) q.1 ∙ get_or-set_same w.seen e r 0 inside in
    let more : KeepsSeen w.seen x.seen = subst (KeepsSeen w.seen) (sym q.1) (keeps-set w.seen e r inside kept) in
    let link : link_word (shown v.start w.seen) j ≡ suc a = h.2 in
    record {
      node = a;
      low = low;
      here = at;
      roams = q.0;
      kept = λ b p. (let o : get_or w.seen b 0 ≡ get_or v.seen b 0 = h.3 b p in more b (omega arith) ∙ o);
      link = more (link_at v.start j) (omega arith) ∙ link;
      filled = (let f : 0 < get_or x.seen e 0 = omega arith in f);
      other = λ z. ne (sym here ∙ z);
      few = h.4;
    }

pub old_node : (k j a r : ℕ) (v w x : View) → IsHop k j v w (Node a) → x ≡ found k (4 * v.start.buckets + a) r w → length w.seen ≡ counter_at v.start + 1 → r ≡ k → HasPair k (4 * v.start.buckets + a) x → IsTouched k v x (Old (4 * v.start.buckets + a))
old_node k j a r v w x h is wide same pair =
    let e : ℕ = 4 * v.start.buckets + a in
    let low : a < v.start.nodes = h.1 in
    let F : List ℕ → List (ℕ × ℕ) → List (ℕ × ℕ) → View = λ us ls ns. record v { seen = us; looks = ls; touched = touched_after k e k v.touched; nodes = ns } in
    let q : x ≡ F (set w.seen e k) ((e, k) ∷ v.looks) w.nodes = is ∙ ap (λ (z : ℕ). found k e z w) same ∙ ap (found k e k) h.0 in
    let us : x.seen ≡ set w.seen e k = ap (λ (z : View). z.seen) q in
    let ls : x.looks ≡ (e, k) ∷ v.looks = ap (λ (z : View). z.looks) q in
    let ns : x.nodes ≡ w.nodes = ap (λ (z : View). z.nodes) q in
    let inside : e < length w.seen = omega arith in (
      q ∙ ap (λ (z : List ℕ). F z ((e, k) ∷ v.looks) w.nodes) (sym us) ∙ ap (λ (z : List (ℕ × ℕ)). F x.seen z w.nodes) (sym ls) ∙ ap (F x.seen x.looks) (sym ns),
      omega arith,
      record { seen = ap (λ (z : List ℕ). get_or z e 0) us ∙ get_or-set_same w.seen e k 0 inside; pair = pair },
      record { others = []; looks = ls },
    )

pub new_linked : (k j a : ℕ) (v w : View) → IsHop k j v w (Linked a) → IsTouched k v w (New (4 * v.start.buckets + a))
new_linked k j a v w h =
    let F : List (ℕ × ℕ) → View = λ ls. record v { seen = w.seen; looks = ls; touched = touched_after k (4 * v.start.buckets + a) k v.touched; placed = v.placed ++ k ∷ []; nodes = w.nodes } in
    let low : a < v.start.nodes = h.1 in
    (h.0 ∙ ap F (sym (ap (λ (z : View). z.looks) h.0)), omega arith, h.2)

pub spent_out : (k j d : ℕ) (v w : View) → IsHop k j v w (Out d) → IsNextLink v.start v.seen k j → IsTouched k v w (Spent d)
spent_out k j d v w h r =
    let F : List ℕ → List (ℕ × ℕ) → List (ℕ × ℕ) → View = λ us ls ns. record v { seen = us; looks = ls; nodes = ns; mark = suc d; ends = suc v.ends } in
    let us : w.seen ≡ v.seen = ap (λ (z : View). z.seen) h.0 in
    let ls : w.looks ≡ v.looks = ap (λ (z : View). z.looks) h.0 in
    let ns : w.nodes ≡ v.nodes = ap (λ (z : View). z.nodes) h.0 in
    let P : List ℕ → Type 0 = λ l. Passes (shown v.start l) k (home v.start.buckets k) 4 in
    (h.0 ∙ ap (λ (z : List ℕ). F z v.looks v.nodes) (sym us) ∙ ap (λ (z : List (ℕ × ℕ)). F w.seen z v.nodes) (sym ls) ∙ ap (F w.seen w.looks) (sym ns), h.1, subst P (sym us) r.0, h.2)

-- ---- the loop

-- from view v on, the chain was seen over i nodes to link j
pub record OnChain (k : ℕ) (v w : View) (j i : ℕ) : Type 0 where
  pub roams : Roams v w
  pub passes : Passes (shown v.start w.seen) k (home v.start.buckets k) 4
  pub path : List ℕ
  pub long : length path ≡ i
  pub few : i ≤ v.start.nodes
  pub sees : LeadsPast (shown v.start w.seen) k (home v.start.buckets k) path j
  pub low : j < v.start.buckets + v.start.nodes

pub chain_first : (k j : ℕ) (v : View) → j ≡ home v.start.buckets k → j < v.start.buckets → Passes (shown v.start v.seen) k (home v.start.buckets k) 4 → OnChain k v v j 0
chain_first k j v is lt p = record { roams = (refl, ([], refl)); passes = p; path = []; long = refl; few = omega arith; sees = sym is; low = omega arith }

pub chain_reached : (k : ℕ) (v w : View) (j i : ℕ) → OnChain k v w j i → IsNextLink w.start w.seen k j
chain_reached k v w j i c =
    let P : Table → Type 0 = λ t. IsNextLink t w.seen k j in
    let st : w.start ≡ v.start = ap (λ (z : View). z.start) c.roams.0 in
    subst P (sym st) (c.passes, (c.path, c.sees))

pub chain_next : (k : ℕ) (v w x : View) (j i l : ℕ) → OnChain k v w j i → IsOn k j w x l → OnChain k v x l (i + 1)
chain_next k v w x j i l c n =
    let st : w.start ≡ v.start = ap (λ (z : View). z.start) c.roams.0 in
    let t : Table = v.start in
    let h : ℕ = home v.start.buckets k in
    let link : link_word (shown t x.seen) j ≡ suc n.node = subst (λ (u : Table). link_word (shown u x.seen) j ≡ suc n.node) st n.link in
    let filled : 0 < key_word (shown t x.seen) (4 * t.buckets + n.node) = subst (λ (u : Table). 0 < key_word (shown u x.seen) (4 * u.buckets + n.node)) st n.filled in
    let other : key_word (shown t x.seen) (4 * t.buckets + n.node) ≢ k = subst (λ (u : Table). key_word (shown u x.seen) (4 * u.buckets + n.node) ≢ k) st n.other in
    let low : n.node < t.nodes = subst (λ (u : Table). n.node < u.nodes) st n.low in
    let at : l ≡ t.buckets + n.node = n.here ∙ ap (λ (u : Table). u.buckets + n.node) st in
    let few : length c.path < t.nodes = subst (λ (u : Table). (vs : List ℕ) → LeadsPast (shown u w.seen) k (home u.buckets k) vs j → length vs < u.nodes) st n.few c.path c.sees in
    let long : length c.path ≡ i = c.long in
    let old : LeadsPast (shown t x.seen) k h c.path j = sees-kept t w.seen x.seen k n.kept c.path h j c.sees in
    let Q : ℕ → Type 0 = λ z. LeadsPast (shown t x.seen) k h (c.path ++ n.node ∷ []) z in
    record {
      roams = roams-on v w x c.roams n.roams;
      passes = passes-kept t w.seen x.seen k h 4 n.kept c.passes;
      path = c.path ++ n.node ∷ [];
      long = length-append c.path (n.node ∷ []) ∙ (let e : length c.path + 1 ≡ i + 1 = omega arith in e);
      few = omega arith;
      sees = subst Q (sym at) (sees-more (shown t x.seen) k c.path h j n.node old link filled other);
      low = omega arith;
    }

pub chain_touched : (k : ℕ) (v w x : View) (j i : ℕ) (t : Touched) → OnChain k v w j i → IsTouched k w x t → IsTouched k v x t
chain_touched k v w x j i t c q = roamed k v w x t c.roams q

-- ---- by the number of buckets that the code has

pub on_node_by : (k j a r l b : ℕ) (start : Table) (v w x : View) → b ≡ start.buckets → v.start ≡ start → IsHop k j v w (Node a) → x ≡ found k (4 * b + a) r w → length w.seen ≡ counter_at start + 1 → 0 < r → r ≢ k → IsKept w.seen (4 * b + a) r → l ≡ b + a → IsOn k j v x l
on_node_by k j a r l b start v w x is st h f wide some ne kept at =
    let same : b ≡ v.start.buckets = is ∙ ap (λ (t : Table). t.buckets) (sym st) in
    on_node k j a r l v w x h (f ∙ ap (λ (z : ℕ). found k (4 * z + a) r w) same) (wide ∙ ap (λ (t : Table). counter_at t + 1) (sym st)) some ne (subst (λ (z : ℕ). IsKept w.seen (4 * z + a) r) same kept) (at ∙ ap (λ (z : ℕ). z + a) same)

pub old_node_by : (k j a r b : ℕ) (start : Table) (v w x : View) → b ≡ start.buckets → v.start ≡ start → IsHop k j v w (Node a) → x ≡ found k (4 * b + a) r w → length w.seen ≡ counter_at start + 1 → r ≡ k → (r ≡ k → HasPair k (4 * b + a) x) → IsTouched k v x (Old (4 * b + a))
old_node_by k j a r b start v w x is st h f wide e pair =
    let same : b ≡ v.start.buckets = is ∙ ap (λ (t : Table). t.buckets) (sym st) in
    subst (λ (z : ℕ). IsTouched k v x (Old (4 * z + a))) (sym same) (old_node k j a r v w x h (f ∙ ap (λ (z : ℕ). found k (4 * z + a) r w) same) (wide ∙ ap (λ (t : Table). counter_at t + 1) (sym st)) e (subst (λ (z : ℕ). HasPair k (4 * z + a) x) same (pair e)))

pub new_linked_by : (k j a b : ℕ) (start : Table) (v w : View) → b ≡ start.buckets → v.start ≡ start → IsHop k j v w (Linked a) → IsTouched k v w (New (4 * b + a))
new_linked_by k j a b start v w is st h =
    let same : b ≡ v.start.buckets = is ∙ ap (λ (t : Table). t.buckets) (sym st) in
    subst (λ (z : ℕ). IsTouched k v w (New (4 * z + a))) (sym same) (new_linked k j a v w h)

pub chain_low : (k : ℕ) (v w : View) (j i b n : ℕ) (start : Table) → (b ≡ start.buckets) × (n ≡ start.nodes) → v.start ≡ start → OnChain k v w j i → j < b + n
chain_low k v w j i b n start is st c =
    let p : b ≡ start.buckets = is.0 in
    let q : n ≡ start.nodes = is.1 in
    let x : v.start.buckets ≡ start.buckets = ap (λ (t : Table). t.buckets) st in
    let y : v.start.nodes ≡ start.nodes = ap (λ (t : Table). t.nodes) st in
    let l : j < v.start.buckets + v.start.nodes = c.low in
    omega arith

pub chain_past : (k : ℕ) (v w : View) (j i n : ℕ) (start : Table) → n ≡ start.nodes → v.start ≡ start → OnChain k v w j i → i ≡ n + 1 → ⊥
chain_past k v w j i n start q st c e =
    let y : v.start.nodes ≡ start.nodes = ap (λ (t : Table). t.nodes) st in
    let f : i ≤ v.start.nodes = c.few in
    absurd (omega arith)
