-- When a seat may make a step, from what the machine's tests tell.
use Rattle.std.proofs.Common.{◌≡◌, ℕ, suc, ◌+◌, ◌*◌, ◌<◌, ◌≤◌, List, [], ◌∷◌, length, sym, ap, ◌∙◌, subst, arith}
use Rattle.std.specs.Prelude.{slice_index_or, slice_index}
use mathlib.Core.Option.{some as there_is, some-injective}
use lib.ListN.{get_elem?}
use Rattle.std.proofs.lemmas.List.{length-map}
use Rattle.voxel_block.specs.declared.key.BlockKey.{BlockKey}
use Rattle.voxel_block.specs.Words.{word_of}
use Rattle.spatial_hash.specs.Table.{Table, entries_in}
use Rattle.fusion_core.specs.declared.touch.event.Touch.{Touch}
use Rattle.fusion_core.specs.declared.touch.event.Touch.TheVariants.{Place, Node, Fill, Link}
use Rattle.fusion_core.specs.declared.touch.size.Size.{Size}
use Rattle.fusion_core.specs.TouchSeats.{SeatState}
use Rattle.fusion_core.specs.TouchWords.{counter_at}
use Rattle.fusion_core.specs.TouchSteps.{IsNext, last_node}
use Rattle.fusion_core.specs.TouchMachine.{TouchState, IsAllowed, IsNextFor, HasNodes}
use Rattle.fusion_core.specs.TouchNext.{sized, IsShort, IsSize}
use Rattle.fusion_core.specs.TouchRoom.{SeatRoom}
use Rattle.fusion_core.specs.TouchCoreView.{state_of, IsStateOf}
use Rattle.fusion_core.proofs.TouchSums.{at_index, at_gives, at_map}
use Rattle.fusion_core.proofs.TouchFields.{wide, short, next_low}

-- ---- over the fields

module _ (start : Table) (size : Size) (ws : List ℕ) (rs : List SeatRoom) (m : IsStateOf start size ws rs) where
  pub size_is : IsSize size
  size_is =
      let b : size.buckets ≡ start.buckets = m.buckets in
      let n : size.nodes ≡ start.nodes = m.nodes in
      let some : 0 < start.buckets = m.rule.sound.some_buckets in
      let few : start.buckets ≤ 65536 = m.rule.sound.few_buckets in
      let most : start.nodes ≤ 1000000 = m.rule.sound.few_nodes in
      record { some_buckets = omega arith; few_buckets = omega arith; few_nodes = omega arith }

  module _ (s : TouchState) (view : state_of start ws rs ≡ s) where
    pub entries_is : entries_in (sized size.buckets size.nodes) ≡ entries_in s.start
    entries_is =
        let b : size.buckets ≡ start.buckets = m.buckets in
        let n : size.nodes ≡ start.nodes = m.nodes in
        let e : 4 * size.buckets + size.nodes ≡ entries_in start = omega arith in
        e ∙ ap (λ (z : TouchState). entries_in z.start) view

    pub many : length s.seats ≡ length rs
    many = sym (ap (λ (z : TouchState). length z.seats) view) ∙ length-map rs (λ q. q.seat)

    pub word_low : (w : ℕ) → w < counter_at s.start → w < length ws
    word_low w lt =
        let c : counter_at start ≡ counter_at s.start = ap (λ (z : TouchState). counter_at z.start) view in
        let n : length ws ≡ counter_at start + 1 = m.rule.walks.wide in
        omega arith

    pub word_is : (w : ℕ) → slice_index ws w ≡ slice_index s.words w
    word_is w = ap (λ (z : TouchState). slice_index z.words w) view

    module _ (i : ℕ) (lt : i < length s.seats) (r : SeatRoom) (value : r ≡ slice_index_or rs i r) where
      inside : i < length rs
      inside = (let n = many in omega arith)

      at_seat : get_elem? rs i ≡ there_is r
      at_seat = at_index rs i r inside value

      seat_is : get_elem? s.seats i ≡ there_is r.seat
      seat_is = subst (λ (z : TouchState). get_elem? z.seats i ≡ there_is r.seat) view (at_map (λ (q : SeatRoom). q.seat) rs i r at_seat)

      pub guard_wide : length r.seat.seen ≡ counter_at (sized size.buckets size.nodes) + 1
      guard_wide =
          let b : size.buckets ≡ start.buckets = m.buckets in
          let n : size.nodes ≡ start.nodes = m.nodes in
          let w = wide start size ws rs m i r at_seat in
          omega arith

      pub guard_short : (k : ℕ) → IsShort (sized size.buckets size.nodes) r.seat.seen k
      guard_short k =
          let P : ℕ → ℕ → Type 0 = λ b n. IsShort (sized b n) r.seat.seen k in
          let here : P start.buckets start.nodes = short start size ws rs m i r at_seat k in
          subst (λ b. P b size.nodes) (sym m.buckets) (subst (λ n. P start.buckets n) (sym m.nodes) here)

      same_next : (k w : ℕ) → (IsNext (sized size.buckets size.nodes) r.seat.seen k w → IsNext start r.seat.seen k w) × (IsNext start r.seat.seen k w → IsNext (sized size.buckets size.nodes) r.seat.seen k w)
      same_next k w =
          let P : ℕ → ℕ → Type 0 = λ b n. (IsNext (sized b n) r.seat.seen k w → IsNext start r.seat.seen k w) × (IsNext start r.seat.seen k w → IsNext (sized b n) r.seat.seen k w) in
          let here : P start.buckets start.nodes = ((λ x. x), λ x. x) in
          subst (λ b. P b size.nodes) (sym m.buckets) (subst (λ n. P start.buckets n) (sym m.nodes) here)

      next_start : (k w : ℕ) → IsNext start r.seat.seen k w → IsNext s.start r.seat.seen k w
      next_start k w x = subst (λ (z : TouchState). IsNext z.start r.seat.seen k w) view x

      pub next_yes : (k w : ℕ) → IsNext (sized size.buckets size.nodes) r.seat.seen k w → IsNextFor s i k w
      next_yes k w x = (r.seat, seat_is, next_start k w ((same_next k w).0 x))

      pub next_back : (k w : ℕ) → IsNextFor s i k w → IsNext (sized size.buckets size.nodes) r.seat.seen k w
      next_back k w x =
          let o : IsNext s.start r.seat.seen k w = subst (λ (v : SeatState). IsNext s.start v.seen k w) (some-injective x.0 r.seat (sym x.1 ∙ seat_is)) x.2 in
          let p : IsNext start r.seat.seen k w = subst (λ (z : TouchState). IsNext z.start r.seat.seen k w) (sym view) o in
          (same_next k w).1 p

      pub next_inside : (k w : ℕ) → IsNext (sized size.buckets size.nodes) r.seat.seen k w → w < counter_at s.start
      next_inside k w x =
          let l = next_low start size ws rs m i r at_seat k w ((same_next k w).0 x) in
          let c : counter_at start ≡ counter_at s.start = ap (λ (z : TouchState). counter_at z.start) view in
          omega arith

      pub nodes_are : (ns : List (ℕ × ℕ)) → r.seat.nodes ≡ ns → HasNodes s i ns
      nodes_are ns is = (r.seat, seat_is, is)

-- ---- over the state

module _ (s : TouchState) (i : ℕ) where
  pub not_there : (touch : Touch) → (i < length s.seats → ⊥) → IsAllowed s i touch → ⊥
  not_there touch past a = past (at_gives s.seats i a.0 a.0 a.1).0

  pub place_yes : (e : ℕ) (k : BlockKey) → IsNextFor s i (word_of k) e → e < entries_in s.start → slice_index s.words e ≡ 0 → IsAllowed s i (Place e k)
  place_yes e k n lt z = (n.0, n.1, (n.2, lt, z))

  pub place_next : (e : ℕ) (k : BlockKey) → IsAllowed s i (Place e k) → IsNextFor s i (word_of k) e
  place_next e k a = (a.0, a.1, a.2.0)

  pub draw_yes : HasNodes s i [] → IsAllowed s i Node
  draw_yes n = n

  same_nodes : (ms ns : List (ℕ × ℕ)) → HasNodes s i ms → HasNodes s i ns → ms ≡ ns
  same_nodes ms ns a b = sym a.2 ∙ ap (λ (v : SeatState). v.nodes) (some-injective a.0 b.0 (sym a.1 ∙ b.1)) ∙ b.2

  cons_none : (p : ℕ × ℕ) (ps : List (ℕ × ℕ)) → p ∷ ps ≡ [] → ⊥
  cons_none p ps e = (let l : suc (length ps) ≡ 0 = ap length e in absurd (omega arith))

  pub draw_no : (p : ℕ × ℕ) → HasNodes s i (p ∷ []) → IsAllowed s i Node → ⊥
  draw_no p n a = cons_none p [] (same_nodes (p ∷ []) [] n a)

  pub fill_yes : (k : BlockKey) (p : ℕ × ℕ) → HasNodes s i (p ∷ []) → IsAllowed s i (Fill k)
  fill_yes k p n = (n.0, n.1, λ e. cons_none p [] (sym n.2 ∙ e))

  pub fill_no : (k : BlockKey) → HasNodes s i [] → IsAllowed s i (Fill k) → ⊥
  fill_no k n a = a.2 (ap (λ (v : SeatState). v.nodes) (some-injective a.0 n.0 (sym a.1 ∙ n.1)) ∙ n.2)

  -- what a link needs, for the node that the seat has
  pub link_needs : (w : ℕ) (n : ℕ × ℕ) → HasNodes s i (n ∷ []) → IsAllowed s i (Link w) → (0 < n.1) × IsNextFor s i n.1 w × (entries_in s.start ≤ w) × (slice_index s.words w ≡ 0)
  link_needs w n h a =
      let nodes : a.0.nodes ≡ n ∷ [] = ap (λ (v : SeatState). v.nodes) (some-injective a.0 h.0 (sym a.1 ∙ h.1)) ∙ h.2 in
      let P : ℕ × ℕ → Type 0 = λ q. (0 < q.1) × IsNext s.start a.0.seen q.1 w × (entries_in s.start ≤ w) × (slice_index s.words w ≡ 0) in
      let o : P n = subst P (ap last_node nodes) a.2 in
      (o.0, (a.0, a.1, o.1), o.2, o.3)

  pub link_yes : (w : ℕ) (n : ℕ × ℕ) → HasNodes s i (n ∷ []) → 0 < n.1 → IsNextFor s i n.1 w → entries_in s.start ≤ w → slice_index s.words w ≡ 0 → IsAllowed s i (Link w)
  link_yes w n h some x le z =
      let nodes : x.0.nodes ≡ n ∷ [] = ap (λ (v : SeatState). v.nodes) (some-injective x.0 h.0 (sym x.1 ∙ h.1)) ∙ h.2 in
      let P : ℕ × ℕ → Type 0 = λ q. (0 < q.1) × IsNext s.start x.0.seen q.1 w × (entries_in s.start ≤ w) × (slice_index s.words w ≡ 0) in
      (x.0, x.1, subst P (sym (ap last_node nodes)) (some, x.2, le, z))

  pub link_no : (w : ℕ) → HasNodes s i [] → IsAllowed s i (Link w) → ⊥
  link_no w n a =
      let nodes : a.0.nodes ≡ [] = ap (λ (v : SeatState). v.nodes) (some-injective a.0 n.0 (sym a.1 ∙ n.1)) ∙ n.2 in
      let p : 0 < (last_node a.0.nodes).1 = a.2.0 in
      let z : (last_node a.0.nodes).1 ≡ 0 = ap (λ (l : List (ℕ × ℕ)). (last_node l).1) nodes in
      absurd (omega arith)
