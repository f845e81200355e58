-- What links lead to, and what a seat knows, stays where the words on the walks stay.
use Rattle.std.proofs.Common.{◌≡◌, ℕ, suc, ◌+◌, ◌*◌, ◌<◌, ◌≤◌, List, [], ◌∷◌, length, get_or, refl, sym, ap, ◌∙◌, arith, inl, inr, subst}
use Rattle.std.specs.Prelude.{◌⊎◌}
use Rattle.std.proofs.lemmas.Bool.{cases_eq, cases_lt}
use Rattle.spatial_hash.specs.Hash.{home}
use Rattle.spatial_hash.specs.Table.{Table, entries_in, link_word}
use Rattle.spatial_hash.specs.Sound.{Leads, EndsAt}
use Rattle.fusion_core.specs.TouchSeats.{SeatState}
use Rattle.fusion_core.specs.TouchCounts.{pairs_at}
use Rattle.fusion_core.specs.TouchWords.{shown, counter_at, drawn, IsLed, IsOnWalk}
use Rattle.fusion_core.specs.TouchRule.{IsWalked, IsDealt, Fits}

-- the words on the walks stay, and the counter does not fall
pub record Grows (start : Table) (ws xs : List ℕ) : Type 0 where
  pub wide : length xs ≡ length ws
  pub links : (j : ℕ) → j < start.buckets + start.nodes → 0 < link_word (shown start ws) j → link_word (shown start xs) j ≡ link_word (shown start ws) j
  pub keys : (e : ℕ) → IsOnWalk (shown start ws) e → 0 < get_or ws e 0 → get_or xs e 0 ≡ get_or ws e 0
  pub counter : drawn start ws ≤ drawn start xs

-- the last link of a walk is the bucket's own, or that of a node that is led to
pub led_last : (t : Table) (h : ℕ) (ns : List ℕ) (j k : ℕ) → j < t.buckets + t.nodes → Leads t h j ns k → (j ≡ k) ⊎ ((n : ℕ) × (k ≡ t.buckets + n) × (n < t.nodes) × IsLed t n)
led_last t h [] j k lt r = inl r
led_last t h (m ∷ ns) j k lt r =
    let low : m < t.nodes = r.0.low in
    elim (led_last t h ns (t.buckets + m) k (omega arith) r.1) [
      | inl e ↦ inr (m, sym e, r.0.low, (j, lt, r.0.link))
      | inr n ↦ inr n
    ]

pub led_node : (t : Table) (h n : ℕ) (ns : List ℕ) → h < t.buckets → Leads t h h ns (t.buckets + n) → IsLed t n
led_node t h n ns lt r = elim (led_last t h ns h (t.buckets + n) (omega arith) r) [
  | inl e ↦ absurd (omega arith)
  | inr m ↦ (let e : t.buckets + n ≡ t.buckets + m.0 = m.1 in let same : m.0 ≡ n = omega arith in subst (IsLed t) same m.3)
]

pub end_low : (start : Table) (ws : List ℕ) (h k : ℕ) → h < start.buckets → EndsAt (shown start ws) h k → k < start.buckets + start.nodes
end_low start ws h k lt r = elim (led_last (shown start ws) h r.over h k (omega arith) r.leads) [
  | inl e ↦ omega arith
  | inr m ↦ (let e : k ≡ start.buckets + m.0 = m.1 in let l : m.0 < start.nodes = m.2 in omega arith)
]

module _ (start : Table) (ws xs : List ℕ) (g : Grows start ws xs) where
  pub led : (n : ℕ) → IsLed (shown start ws) n → IsLed (shown start xs) n
  led n l = let e : link_word (shown start ws) l.0 ≡ suc n = l.2 in (l.0, l.1, g.links l.0 l.1 (omega arith) ∙ e)

  pub on_walk : (e : ℕ) → IsOnWalk (shown start ws) e → IsOnWalk (shown start xs) e
  on_walk e (inl lt) = inl lt
  on_walk e (inr m) = inr (m.0, m.1, led m.0 m.2)

  pub leads_grown : (h : ℕ) (ns : List ℕ) (j k : ℕ) → j < start.buckets + start.nodes → Leads (shown start ws) h j ns k → Leads (shown start xs) h j ns k
  leads_grown h [] j k lt r = r
  leads_grown h (n ∷ ns) j k lt r =
      let e : link_word (shown start ws) j ≡ suc n = r.0.link in
      let low : n < start.nodes = r.0.low in
      let f : 0 < get_or ws (4 * start.buckets + n) 0 = r.0.filled in
      let same : get_or xs (4 * start.buckets + n) 0 ≡ get_or ws (4 * start.buckets + n) 0 = g.keys (4 * start.buckets + n) (inr (n, refl, (j, lt, e))) f in (
        record { link = g.links j lt (omega arith) ∙ e; low = low; filled = (let f2 : 0 < get_or xs (4 * start.buckets + n) 0 = omega arith in f2); at_home = ap (home start.buckets) same ∙ r.0.at_home },
        leads_grown h ns (start.buckets + n) k (omega arith) r.1,
      )

  pub ends_grown : (h k : ℕ) → h < start.buckets → EndsAt (shown start ws) h k → link_word (shown start xs) k ≡ 0 → EndsAt (shown start xs) h k
  ends_grown h k lt r z = record { over = r.over; leads = leads_grown h r.over h k (omega arith) r.leads; none = z; few = r.few }

  pub walked_grown : (n x : ℕ) → x ≡ get_or ws (4 * start.buckets + n) 0 → home start.buckets x < start.buckets
      → (0 < get_or ws (4 * start.buckets + n) 0) × ((ns : List ℕ) × Leads (shown start ws) (home start.buckets (get_or ws (4 * start.buckets + n) 0)) (home start.buckets (get_or ws (4 * start.buckets + n) 0)) ns (start.buckets + n))
      → (0 < get_or xs (4 * start.buckets + n) 0) × ((ns : List ℕ) × Leads (shown start xs) (home start.buckets (get_or xs (4 * start.buckets + n) 0)) (home start.buckets (get_or xs (4 * start.buckets + n) 0)) ns (start.buckets + n))
  walked_grown n x is lt r =
      let P : ℕ → Type 0 = λ y. (0 < y) × ((ns : List ℕ) × Leads (shown start ws) (home start.buckets y) (home start.buckets y) ns (start.buckets + n)) in
      let Q : ℕ → Type 0 = λ y. (0 < y) × ((ns : List ℕ) × Leads (shown start xs) (home start.buckets y) (home start.buckets y) ns (start.buckets + n)) in
      let q : P x = subst P (sym is) r in
      let l : IsLed (shown start ws) n = led_node (shown start ws) (home start.buckets x) n q.1.0 lt q.1.1 in
      let same : get_or xs (4 * start.buckets + n) 0 ≡ get_or ws (4 * start.buckets + n) 0 = g.keys (4 * start.buckets + n) (inr (n, refl, l)) r.0 in
      let now : Q x = (q.0, (q.1.0, leads_grown (home start.buckets x) q.1.0 (home start.buckets x) (start.buckets + n) (omega arith) q.1.1)) in
      subst Q (is ∙ sym same) now

  pub fits_grown : (v : SeatState) → Fits start ws v → ((w : ℕ) → w < counter_at start → 0 < get_or v.seen w 0 → get_or xs w 0 ≡ get_or ws w 0)
      → ((n x : ℕ) → n < start.nodes → 0 < pairs_at n x v.nodes → get_or xs (4 * start.buckets + n) 0 ≡ get_or ws (4 * start.buckets + n) 0) → Fits start xs v
  fits_grown v f stays mine = record {
    wide = λ p. f.wide p ∙ sym g.wide;
    seen = λ w lt more. stays w lt more ∙ f.seen w lt more;
    blind = λ n lt no. f.blind n lt (λ l. no (led n l));
    touched = λ x e h. (let o = f.touched x e h in (o.0, o.1, on_walk e o.2, g.keys e o.2 (let is : get_or ws e 0 ≡ x = o.3 in let p : 0 < x = o.0 in omega arith) ∙ o.3));
    placed = f.placed;
    filled = λ n x h. (let o = f.filled n x h in (o.0, mine n x o.0 h ∙ o.1));
    few = f.few;
    idle = f.idle;
    marked = λ m. ((f.marked m).0, (let a : start.nodes ≤ drawn start ws = (f.marked m).1 in let b : drawn start ws ≤ drawn start xs = g.counter in omega arith));
  }

-- an entry on a walk is one of the table's
pub walk_low : (start : Table) (ws : List ℕ) (e : ℕ) → IsWalked start ws → IsOnWalk (shown start ws) e → e < entries_in start
walk_low start ws e w (inl lt) = omega arith
walk_low start ws e w (inr m) =
    let l = m.2 in
    let a : link_word (shown start ws) l.0 ≡ suc m.0 = l.2 in
    let b : link_word (shown start ws) l.0 ≤ start.nodes = w.low l.0 l.1 in
    let c : e ≡ 4 * start.buckets + m.0 = m.1 in
    omega arith

-- a node that is led to was drawn and is in no hand
pub record IsWalkNode (start : Table) (ws : List ℕ) (owners : ℕ → ℕ) (n : ℕ) : Type 0 where
  pub low : n < start.nodes
  pub drawn : n < drawn start ws
  pub free : owners n ≡ 0
  pub filled : 0 < get_or ws (4 * start.buckets + n) 0
  pub over : List ℕ
  pub leads : Leads (shown start ws) (home start.buckets (get_or ws (4 * start.buckets + n) 0)) (home start.buckets (get_or ws (4 * start.buckets + n) 0)) over (start.buckets + n)

pub walk_node : (start : Table) (ws : List ℕ) (owners : ℕ → ℕ) (n : ℕ) → IsWalked start ws → IsDealt start ws owners → IsLed (shown start ws) n → IsWalkNode start ws owners n
walk_node start ws owners n w d l =
    let e : link_word (shown start ws) l.0 ≡ suc n = l.2 in
    let le : link_word (shown start ws) l.0 ≤ start.nodes = w.low l.0 l.1 in
    let low : n < start.nodes = omega arith in
    let out : n < drawn start ws = elim (cases_lt n (drawn start ws)) [ inl lt ↦ lt | inr ge ↦ absurd ((d.fresh n low ge).0 l) ] in
    let free : owners n ≡ 0 = elim (cases_eq (owners n) 0) [ inl z ↦ z | inr ne ↦ absurd ((d.spare n (omega arith)).3 l) ] in
    let r = d.walked n low out free in
    record { low = low; drawn = out; free = free; filled = r.0; over = r.1.0; leads = r.1.1 }
