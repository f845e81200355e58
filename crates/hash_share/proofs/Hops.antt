-- What a link led to.
use Rattle.std.proofs.Common.{◌≡◌, ℕ, suc, ◌+◌, ◌-◌, ◌*◌, ◌<◌, ◌≤◌, List, [], ◌∷◌, ◌++◌, length, map, set, get_or, Bool, refl, sym, ap, ◌∙◌, arith, subst}
use Rattle.std.proofs.lemmas.List.{get_or-set_same, length-set}
use Rattle.spatial_hash.specs.Table.{Table}
use Rattle.hash_share.specs.declared.view.View.{View}
use Rattle.hash_share.specs.declared.hop.Hop.{Hop}
use Rattle.hash_share.specs.declared.hop.Hop.TheVariants.{Node, Linked, Out}
use Rattle.fusion_core.specs.TouchSteps.{touched_after, refilled, without_last, IsNextLink}
use Rattle.fusion_core.specs.TouchWords.{counter_at, link_at}
use Rattle.hash_share.specs.Steps.{Held, saw, stored, hung, past, LeadsOn, IsKept, HasPair}
use Rattle.fusion_core.specs.TouchLaws.{IsAbsent}
use Rattle.hash_share.specs.Spares.{AllBelow, rest_of}
use Rattle.hash_share.specs.Touching.{IsTied, IsHop, KeepsSeen}
use Rattle.hash_share.proofs.Walking.{keeps-set}

pub tied_saw : (start : Table) (m n : Held) (spares : List ℕ) (marked : Bool) (w r : ℕ) → IsTied start m spares marked → n ≡ (saw w r m.0, m.1) → IsTied start n spares marked
tied_saw start m n spares marked w r t is =
    let P : Held → Type 0 = λ x. IsTied start x spares marked in
    let now : P (saw w r m.0, m.1) = record { slots = t.slots; part = t.part; begun = t.begun; wide = length-set m.0.seen w r ∙ t.wide; nodes = t.nodes; low = t.low; has_mark = t.has_mark; no_mark = t.no_mark } in
    subst P (sym is) now

refilled-same : (x : ℕ) (ns : List (ℕ × ℕ)) → map (λ p. p.0) (refilled x ns) ≡ map (λ p. p.0) ns
refilled-same x [] = refl
refilled-same x (p ∷ ps) = refl

pub tied_stored : (start : Table) (m n : Held) (spares : List ℕ) (marked : Bool) (x : ℕ) → IsTied start m spares marked → n ≡ (stored x m.0, m.1) → IsTied start n spares marked
tied_stored start m n spares marked x t is =
    let P : Held → Type 0 = λ x. IsTied start x spares marked in
    let now : P (stored x m.0, m.1) = record { slots = t.slots; part = t.part; begun = t.begun; wide = t.wide; nodes = refilled-same x m.0.nodes ∙ t.nodes; low = t.low; has_mark = t.has_mark; no_mark = t.no_mark } in
    subst P (sym is) now

tail-same : (ns : List (ℕ × ℕ)) → map (λ p. p.0) (without_last ns) ≡ rest_of (map (λ p. p.0) ns)
tail-same [] = refl
tail-same (p ∷ ps) = refl

below-rest : (n : ℕ) (l : List ℕ) → AllBelow n l → AllBelow n (rest_of l)
below-rest n [] a = a
below-rest n (x ∷ xs) a = a.1

pub tied_hung : (start : Table) (m n : Held) (spares : List ℕ) (marked : Bool) (k w a e : ℕ) → IsTied start m spares marked → n ≡ (hung k w a e m.0, m.1) → IsTied start n (rest_of spares) marked
tied_hung start m n spares marked k w a e t is =
    let P : Held → Type 0 = λ x. IsTied start x (rest_of spares) marked in
    let now : P (hung k w a e m.0, m.1) = record {
      slots = t.slots;
      part = t.part;
      begun = t.begun;
      wide = length-set (set m.0.seen w (suc a)) e k ∙ length-set m.0.seen w (suc a) ∙ t.wide;
      nodes = tail-same m.0.nodes ∙ ap rest_of t.nodes;
      low = below-rest start.nodes spares t.low;
      has_mark = t.has_mark;
      no_mark = t.no_mark;
    } in
    subst P (sym is) now

-- ---- what is told

hop-by : (k j r : ℕ) (v w : View) (ns : List (ℕ × ℕ)) → w ≡ record v { seen = set v.seen (link_at v.start j) r; nodes = ns } → j < v.start.buckets + v.start.nodes → length v.seen ≡ counter_at v.start + 1 → 0 < r
    → LeadsOn v.start v.seen k (link_at v.start j) r → IsKept v.seen (link_at v.start j) r → IsHop k j v w (Node (r - 1))
hop-by k j r v w ns is low wide some next kept =
    let at : ℕ = link_at v.start j in
    let us : w.seen ≡ set v.seen at r = ap (λ (z : View). z.seen) is in
    let nodes : w.nodes ≡ ns = ap (λ (z : View). z.nodes) is in
    let F : List ℕ → List (ℕ × ℕ) → View = λ a b. record v { seen = a; nodes = b } in
    let inside : at < length v.seen = omega arith in
    let le : r ≤ v.start.nodes = next.0 in
    let one : r ≡ suc (r - 1) = omega arith in (
      is ∙ ap (λ (a : List ℕ). F a ns) (sym us) ∙ ap (F w.seen) (sym nodes),
      omega arith,
      ap (λ (l : List ℕ). get_or l at 0) us ∙ get_or-set_same v.seen at r 0 inside ∙ one,
      subst (KeepsSeen v.seen) (sym us) (keeps-set v.seen at r inside kept),
      λ vs sees. next.1 vs j refl sees,
    )

pub hop_node : (k j r : ℕ) (m n : Held) (start : Table) (spares : List ℕ) (marked : Bool) → n ≡ (saw (link_at m.0.start j) r m.0, m.1) → IsTied start m spares marked → j < m.0.start.buckets + m.0.start.nodes → 0 < r
    → LeadsOn m.0.start m.0.seen k (link_at m.0.start j) r → IsKept m.0.seen (link_at m.0.start j) r → IsHop k j m.0 n.0 (Node (r - 1))
hop_node k j r m n start spares marked is t low some next kept =
    hop-by k j r m.0 n.0 m.0.nodes (ap (λ (z : Held). z.0) is) low (t.wide ∙ ap (λ (x : Table). counter_at x + 1) (sym t.begun)) some next kept

-- the link that stood there when the key was to be linked
pub hop_lost : (k j r : ℕ) (m s n : Held) (start : Table) (spares : List ℕ) (marked : Bool) → s ≡ (stored k m.0, m.1) → n ≡ (saw (link_at s.0.start j) r s.0, s.1) → IsTied start m spares marked → j < m.0.start.buckets + m.0.start.nodes → 0 < r
    → LeadsOn s.0.start s.0.seen k (link_at s.0.start j) r → IsKept s.0.seen (link_at s.0.start j) r → IsHop k j m.0 n.0 (Node (r - 1))
hop_lost k j r m s n start spares marked is then t low some next kept =
    let e : s.0 ≡ stored k m.0 = ap (λ (z : Held). z.0) is in
    let P : View → Type 0 = λ z. LeadsOn z.start z.seen k (link_at z.start j) r × IsKept z.seen (link_at z.start j) r in
    let both : P (stored k m.0) = subst P e (next, kept) in
    hop-by k j r m.0 n.0 (refilled k m.0.nodes) (ap (λ (z : Held). z.0) then ∙ ap (λ (z : View). saw (link_at z.start j) r z) e) low (t.wide ∙ ap (λ (x : Table). counter_at x + 1) (sym t.begun)) some both.0 both.1

pub hop_linked : (k j a : ℕ) (m s n : Held) (start : Table) (spares : List ℕ) (marked : Bool) → IsTied start m spares marked → s ≡ (stored k m.0, m.1) → n ≡ (hung k (link_at s.0.start j) a (4 * s.0.start.buckets + a) s.0, s.1) → a < m.0.start.nodes → HasPair k (4 * s.0.start.buckets + a) n.0 → IsHop k j m.0 n.0 (Linked a)
hop_linked k j a m s n start spares marked t is then low pair =
    let v : View = m.0 in
    let w : View = n.0 in
    let e : s.0 ≡ stored k v = ap (λ (z : Held). z.0) is in
    let xs : List ℕ = set (set v.seen (link_at v.start j) (suc a)) (4 * v.start.buckets + a) k in
    let ns : List (ℕ × ℕ) = without_last (refilled k v.nodes) in
    let F : List ℕ → List (ℕ × ℕ) → View = λ us ls. record v { seen = us; touched = touched_after k (4 * v.start.buckets + a) k v.touched; placed = v.placed ++ k ∷ []; nodes = ls } in
    let q : w ≡ F xs ns = ap (λ (z : Held). z.0) then ∙ ap (λ (z : View). hung k (link_at z.start j) a (4 * z.start.buckets + a) z) e in
    let us : w.seen ≡ xs = ap (λ (z : View). z.seen) q in
    let ls : w.nodes ≡ ns = ap (λ (z : View). z.nodes) q in
    let wide : length v.seen ≡ counter_at v.start + 1 = t.wide ∙ ap (λ (x : Table). counter_at x + 1) (sym t.begun) in
    let long : length (set v.seen (link_at v.start j) (suc a)) ≡ length v.seen = length-set v.seen (link_at v.start j) (suc a) in
    let inside : 4 * v.start.buckets + a < length (set v.seen (link_at v.start j) (suc a)) = omega arith in (
      q ∙ ap (λ (l : List ℕ). F l ns) (sym us) ∙ ap (F w.seen) (sym ls),
      low,
      record {
        seen = ap (λ (l : List ℕ). get_or l (4 * v.start.buckets + a) 0) us ∙ get_or-set_same (set v.seen (link_at v.start j) (suc a)) (4 * v.start.buckets + a) k 0 inside;
        pair = subst (λ (z : View). HasPair k (4 * z.start.buckets + a) w) e pair;
      },
    )

pub hop_out : (k j d : ℕ) (m n : Held) → n.0 ≡ past d m.0 → m.0.start.nodes ≤ d → IsAbsent m.0.start m.0.touched k → IsHop k j m.0 n.0 (Out d)
hop_out k j d m n is past none = (is, past, none)

-- ---- behind a new node of its own

pub reached_own : (k j : ℕ) (m n : Held) → n.0 ≡ record m.0 { nodes = n.0.nodes } → IsNextLink m.0.start m.0.seen k j → IsNextLink n.0.start n.0.seen k j
reached_own k j m n is r = subst (λ (z : View). IsNextLink z.start z.seen k j) (sym is) r

-- (the mark of a view that drew is past: such a hop has no node of its own, so the nodes are as they were)
own-by : (k j : ℕ) (v w : View) (ns : List (ℕ × ℕ)) (h : Hop) → ((d : ℕ) → h ≡ Out d → ⊥) → IsHop k j (record v { nodes = ns }) w h → IsHop k j v w h
own-by k j v w ns (Node a) off q = q
own-by k j v w ns (Linked a) off q = q
own-by k j v w ns (Out d) off q = absurd (off d refl)

pub hop_own : (k j : ℕ) (m s n : Held) (h : Hop) → ((d : ℕ) → h ≡ Out d → ⊥) → s.0 ≡ record m.0 { nodes = s.0.nodes } → IsHop k j s.0 n.0 h → IsHop k j m.0 n.0 h
hop_own k j m s n h off is p = own-by k j m.0 n.0 s.0.nodes h off (subst (λ (z : View). IsHop k j z n.0 h) is p)
