-- The rule holds at the start.
use Rattle.std.proofs.Common.{◌≡◌, ℕ, suc, ◌+◌, ◌-◌, ◌*◌, ◌^◌, ◌<◌, ◌≤◌, List, [], ◌∷◌, ◌++◌, length, replicate, get_or, refl, sym, ap, ◌∙◌, arith, inl, inr, subst, length-append}
use Rattle.std.specs.Prelude.{sum_by}
use Rattle.std.proofs.lemmas.Bool.{cases_eq, cases_lt}
use Rattle.std.proofs.lemmas.List.{get_or_append_left, get_or_push, get_or-replicate, length-replicate}
use mathlib.Core.Option.{some as there_is}
use lib.ListN.{get_elem?, get_or-eq_default}
use Rattle.spatial_hash.specs.Hash.{home}
use Rattle.spatial_hash.specs.Table.{Table, entries_in, key_word, link_word}
use Rattle.spatial_hash.specs.Sound.{IsSound, IsStep, Leads, EndsAt}
use Rattle.spatial_hash.proofs.Homes.{home_low}
use Rattle.spatial_hash.proofs.Places.{is_linked}
use Rattle.fusion_core.specs.TouchSeats.{SeatState, fresh_seat}
use Rattle.fusion_core.specs.TouchCounts.{times, firsts}
use Rattle.fusion_core.specs.TouchWords.{shown, counter_at, drawn, IsLed, IsOnWalk}
use Rattle.fusion_core.specs.TouchRule.{IsWalked, IsDealt, IsPlaced, Fits, TouchRuleHolds, owners_in, placings, spent}
use Rattle.fusion_core.proofs.TouchSums.{sum-same, at_replicate}
use Rattle.fusion_core.proofs.TouchGrowing.{led_node}

-- a table's last link that is not 0 leads to a filled node
step_of : (t : Table) (h : ℕ) (ns : List ℕ) (j l : ℕ) → Leads t h j ns l → (over : List ℕ) (e : ℕ) → Leads t h j over e → link_word t e ≡ 0 → (n : ℕ) → link_word t l ≡ suc n → IsStep t h l n
step_of t h [] j l r [] e q z n is = let P : ℕ → Type 0 = λ x. link_word t x ≡ suc n in let a : link_word t j ≡ suc n = subst P (sym r) is in let b : link_word t j ≡ 0 = ap (link_word t) q ∙ z in absurd (omega arith)
step_of t h [] j l r (x ∷ over) e q z n is =
    let P : ℕ → Type 0 = λ y. link_word t y ≡ suc n in
    let a : link_word t j ≡ suc n = subst P (sym r) is in
    let b : link_word t j ≡ suc x = q.0.link in
    let xn : x ≡ n = omega arith in
    let S : ℕ → ℕ → Type 0 = λ y m. IsStep t h y m in
    subst (S l) xn (subst (λ (y : ℕ). S y x) r q.0)
step_of t h (v ∷ ns) j l r [] e q z n is = let a : link_word t j ≡ suc v = r.0.link in let b : link_word t j ≡ 0 = ap (link_word t) q ∙ z in absurd (omega arith)
step_of t h (v ∷ ns) j l r (x ∷ over) e q z n is =
    let a : link_word t j ≡ suc v = r.0.link in
    let b : link_word t j ≡ suc x = q.0.link in
    let xv : x ≡ v = omega arith in
    let P : ℕ → Type 0 = λ y. Leads t h (t.buckets + y) over e in
    step_of t h ns (t.buckets + v) l r.1 over e (subst P xv q.1) z n is

module _ (start : Table) (s : IsSound start) where
  abbrev ws : List ℕ
  ws = start.words ++ start.linked ∷ []

  abbrev t : Table
  t = shown start (start.words ++ start.linked ∷ [])

  wide : length start.words ≡ counter_at start
  wide = s.wide

  word : (i : ℕ) → i < counter_at start → get_or ws i 0 ≡ get_or start.words i 0
  word i lt = let w = wide in get_or_append_left start.words (start.linked ∷ []) 0 i (omega arith)

  count : drawn start ws ≡ start.linked
  count = get_or_push start.words start.linked 0 (counter_at start) wide

  link : (j : ℕ) → j < start.buckets + start.nodes → link_word t j ≡ link_word start j
  link j lt = word (4 * start.buckets + start.nodes + j) (omega arith)

  key : (e : ℕ) → e < entries_in start → get_or ws e 0 ≡ key_word start e
  key e lt = word e (omega arith)

  -- a link leads to a linked node
  linked_step : (j n : ℕ) → j < start.buckets + start.nodes → link_word start j ≡ suc n → (h : ℕ) × IsStep start h j n
  linked_step j n lt is =
      elim (cases_lt j start.buckets) [
        | inl low ↦ (let o = s.ends j low in (j, step_of start j [] j j refl o.1.over o.0 o.1.leads o.1.none n is))
        | inr ge ↦ (
            let m : ℕ = j - start.buckets in
            let split : j ≡ start.buckets + (j - start.buckets) = omega arith in
            let is2 : link_word start (start.buckets + (j - start.buckets)) ≡ suc n = ap (link_word start) (sym split) ∙ is in
            elim (cases_lt (j - start.buckets) start.linked) [
              | inl l ↦ (
                  let r = s.reached (j - start.buckets) l (λ x. x) in
                  let h : ℕ = home start.buckets (key_word start (4 * start.buckets + (j - start.buckets))) in
                  let o = s.ends h (home_low start.buckets (key_word start (4 * start.buckets + (j - start.buckets))) s.some_buckets) in
                  let q : IsStep start h (start.buckets + (j - start.buckets)) n = step_of start h r.0 h (start.buckets + (j - start.buckets)) r.1 o.1.over o.0 o.1.leads o.1.none n is2 in
                  let P : ℕ → Type 0 = λ y. IsStep start h y n in
                  (h, subst P (sym split) q))
              | inr f ↦ (let z : link_word start (start.buckets + (j - start.buckets)) ≡ 0 = (s.free (j - start.buckets) f (omega arith)).1 in absurd (omega arith))
            ])
      ]

  led_low : (n : ℕ) → IsLed t n → n < start.linked
  led_low n l =
      let o = linked_step l.0 n l.1 (sym (link l.0 l.1) ∙ l.2) in
      is_linked start n s o.1.low o.1.filled

  walk_entry : (e : ℕ) → IsOnWalk t e → e < entries_in start
  walk_entry e (inl lt) = omega arith
  walk_entry e (inr m) = let a : m.0 < start.linked = led_low m.0 m.2 in let b : start.linked ≤ start.nodes = s.few_linked in let c : e ≡ 4 * start.buckets + m.0 = m.1 in omega arith

  kept : (h j n : ℕ) → j < start.buckets + start.nodes → IsStep start h j n → IsStep t h j n
  kept h j n lt r =
      let low : n < start.nodes = r.low in
      let k : get_or ws (4 * start.buckets + n) 0 ≡ key_word start (4 * start.buckets + n) = key (4 * start.buckets + n) (omega arith) in
      let f : 0 < key_word start (4 * start.buckets + n) = r.filled in
      record { link = link j lt ∙ r.link; low = r.low; filled = (let g : 0 < get_or ws (4 * start.buckets + n) 0 = omega arith in g); at_home = ap (home start.buckets) k ∙ r.at_home }

  leads : (h : ℕ) (ns : List ℕ) (j k : ℕ) → j < start.buckets + start.nodes → Leads start h j ns k → Leads t h j ns k × (k < start.buckets + start.nodes)
  leads h [] j k lt r = let P : ℕ → Type 0 = λ x. x < start.buckets + start.nodes in (r, subst P r lt)
  leads h (n ∷ ns) j k lt r = let low : n < start.nodes = r.0.low in let o = leads h ns (start.buckets + n) k (omega arith) r.1 in ((kept h j n lt r.0, o.0), o.1)

  ended : (h k : ℕ) → h < start.buckets → EndsAt start h k → EndsAt t h k
  ended h k lt r =
      let o = leads h r.over h k (omega arith) r.leads in
      let f : length r.over ≤ start.linked = r.few in
      let g : start.linked ≤ start.nodes = s.few_linked in
      record { over = r.over; leads = o.0; none = link k o.1 ∙ r.none; few = omega arith }

  reach : (n : ℕ) → n < start.linked
      → (0 < get_or ws (4 * start.buckets + n) 0) × ((ns : List ℕ) × Leads t (home start.buckets (get_or ws (4 * start.buckets + n) 0)) (home start.buckets (get_or ws (4 * start.buckets + n) 0)) ns (start.buckets + n))
  reach n lt =
      let g : start.linked ≤ start.nodes = s.few_linked in
      let r = s.reached n lt (λ x. x) in
      let k : get_or ws (4 * start.buckets + n) 0 ≡ key_word start (4 * start.buckets + n) = key (4 * start.buckets + n) (omega arith) in
      let h : ℕ = home start.buckets (key_word start (4 * start.buckets + n)) in
      let lh : h < start.buckets = home_low start.buckets (key_word start (4 * start.buckets + n)) s.some_buckets in
      let P : ℕ → Type 0 = λ x. (0 < x) × ((ns : List ℕ) × Leads t (home start.buckets x) (home start.buckets x) ns (start.buckets + n)) in
      let now : P (key_word start (4 * start.buckets + n)) = (s.placed n lt (λ x. x), (r.0, (leads h r.0 h (start.buckets + n) (omega arith) r.1).0)) in
      subst P (sym k) now

  still : (n : ℕ) → n < start.nodes → (IsLed t n → ⊥) → link_word t (start.buckets + n) ≡ 0
  still n lt off =
      elim (cases_lt n start.linked) [
        | inl l ↦ (let r = reach n l in absurd (off (led_node t (home start.buckets (get_or ws (4 * start.buckets + n) 0)) n r.1.0 (home_low start.buckets _ s.some_buckets) r.1.1)))
        | inr f ↦ link (start.buckets + n) (omega arith) ∙ (s.free n f lt).1
      ]

  walks : IsWalked start ws
  walks = record {
    wide = length-append start.words (start.linked ∷ []) ∙ (let w = wide in let q : length start.words + 1 ≡ counter_at start + 1 = omega arith in q);
    named = λ e lt. (let k = key e lt in let p : key_word start e ≤ 2 ^ 48 = s.named e lt in omega arith);
    low = λ j lt. elim (cases_eq (link_word start j) 0) [
      | inl z ↦ (let q = link j lt in omega arith)
      | inr ne ↦ (let q = link j lt in let o = linked_step j (link_word start j - 1) lt (let y : link_word start j ≡ suc (link_word start j - 1) = omega arith in y) in let l : link_word start j - 1 < start.nodes = o.1.low in omega arith)
    ];
    at_home = λ h i lt li f. (let k = key (4 * h + i) (omega arith) in ap (home start.buckets) k ∙ s.at_home h i lt li (rw k at f));
    prefix = λ h i lt li f. (let k = key (4 * h + suc i) (omega arith) in let l = key (4 * h + i) (omega arith) in let p : 0 < key_word start (4 * h + i) = s.prefix h i lt li (rw k at f) in omega arith);
    full = λ h lt f. (let q = link h (omega arith) in let k = key (4 * h + 3) (omega arith) in let p : 0 < key_word start (4 * h + 3) = s.full h lt (omega arith) in omega arith);
    ends = λ h lt. (let o = s.ends h lt in (o.0, ended h o.0 lt o.1));
    still = still;
    differ = λ d e od oe f same. (
        let kd = key d (walk_entry d od) in let ke = key e (walk_entry e oe) in
        s.differ d e (walk_entry d od) (walk_entry e oe) (rw kd at f) (sym kd ∙ same ∙ ke));
    kept = λ e lt f. key e lt;
  }

  abbrev first : SeatState
  first = fresh_seat (length start.words + 1) 1

  none_owned : (seats n : ℕ) → owners_in (replicate seats first) n ≡ 0
  none_owned seats n = omega (arith, sum-same (λ v. firsts n v.nodes) seats 0 first refl)

  none_placed : (seats n : ℕ) → placings (replicate seats first) n ≡ 0
  none_placed seats n = omega (arith, sum-same (λ v. times n v.placed) seats 0 first refl)

  none_spent : (seats : ℕ) → sum_by spent (replicate seats first) ≡ 0
  none_spent seats = omega (arith, sum-same spent seats 0 first refl)

  all_parts : (seats : ℕ) → sum_by (λ v. v.part) (replicate seats first) ≡ seats
  all_parts seats = omega (arith, sum-same (λ (v : SeatState). v.part) seats 1 first refl)

  dealt : (seats : ℕ) → IsDealt start ws (owners_in (replicate seats first))
  dealt seats =
      let c = count in
      record {
        grown = omega arith;
        fresh = λ n lt d. (
            let f = s.free n (omega arith) lt in
            let k : get_or ws (4 * start.buckets + n) 0 ≡ key_word start (4 * start.buckets + n) = key (4 * start.buckets + n) (omega arith) in
            ((λ l. (let b : n < start.linked = led_low n l in absurd (omega arith))), k ∙ f.0, none_owned seats n));
        spare = λ n p. (let z = none_owned seats n in absurd (omega arith));
        once = λ n. (let z = none_owned seats n in omega arith);
        walked = λ n lt d z. reach n (omega arith);
      }

  origin : (seats : ℕ) → IsPlaced start ws (placings (replicate seats first))
  origin seats = record {
    once = λ x. (let z = none_placed seats x in omega arith);
    there = λ x p. (let z = none_placed seats x in absurd (omega arith));
    back = λ e lt on f z. (let k = key e lt in absurd (omega arith));
  }

  unseen : (n i : ℕ) → ◌≡◌ {A = ℕ} (get_or (replicate n 0) i 0) 0
  unseen n i =
      let xs : List ℕ = replicate n 0 in
      let long : length xs ≡ n = length-replicate n 0 in
      elim (cases_lt i n) [
        | inl lt ↦ get_or-replicate n i 0 0 lt
        | inr ge ↦ (let past : length xs ≤ i = omega arith in get_or-eq_default xs 0 past)
      ]

  fits : Fits start ws first
  fits = record {
    wide = λ p. length-replicate (length start.words + 1) 0 ∙ sym (length-append start.words (start.linked ∷ []));
    seen = λ w lt p. (let z = unseen (length start.words + 1) w in absurd (omega arith));
    blind = λ n lt off. unseen (length start.words + 1) (4 * start.buckets + n);
    touched = λ x e h. absurd (omega arith);
    placed = λ x h. absurd (omega arith);
    filled = λ n x h. absurd (omega arith);
    few = omega arith;
    idle = λ z. (refl, refl, refl, refl);
    marked = λ p. absurd (omega arith);
  }

  only : (seats : ℕ) (i : ℕ) (v : SeatState) → get_elem? (replicate seats first) i ≡ there_is v → first ≡ v
  only seats i v e = at_replicate seats i first v e

  pub opens : (seats : ℕ) → seats ≤ 64 → TouchRuleHolds start seats ws (replicate seats first)
  opens seats few = record {
    sound = s;
    walks = walks;
    dealt = dealt seats;
    origin = origin seats;
    each = λ i v e. subst (Fits start ws) (only seats i v e) fits;
    few = few;
    parts = all_parts seats;
    counter = (let c = count in let f : start.linked ≤ start.nodes = s.few_linked in let z = none_spent seats in omega arith);
  }
