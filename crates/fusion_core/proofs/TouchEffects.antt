-- What each step of the machine needs and leaves, over its fields.
use Rattle.std.proofs.Common.{◌≡◌, ◌≢◌, ℕ, suc, ◌+◌, ◌*◌, ◌^◌, ◌<◌, ◌≤◌, List, [], ◌∷◌, ◌++◌, length, set, get_or, refl, sym, ap, ◌∙◌, subst, arith, length-append}
use Rattle.std.specs.Prelude.{slice_index_or}
use mathlib.Core.Option.{some as there_is}
use lib.ListN.{get_elem?}
use Rattle.voxel_block.specs.declared.key.BlockKey.{BlockKey}
use Rattle.voxel_block.specs.Words.{word_of}
use Rattle.spatial_hash.specs.Table.{Table, entries_in}
use Rattle.fusion_core.specs.declared.touch.event.Touch.{Touch}
use Rattle.fusion_core.specs.declared.touch.event.Touch.TheVariants.{Seen, Place, Node, Fill, Link}
use Rattle.fusion_core.specs.declared.touch.size.Size.{Size}
use Rattle.fusion_core.specs.TouchSeats.{SeatState}
use Rattle.fusion_core.specs.TouchWords.{counter_at, drawn}
use Rattle.fusion_core.specs.TouchSteps.{IsNext, seen_after, touched_after, put, drawn_after, stored, hung, last_node, draw_of}
use Rattle.fusion_core.specs.TouchMachine.{TouchState, MayStep, IsAllowed, Steps, words_after, seat_after}
use Rattle.fusion_core.specs.TouchNext.{sized}
use Rattle.fusion_core.specs.TouchRoom.{SeatRoom}
use Rattle.fusion_core.specs.TouchCoreView.{state_of, IsStateOf}
use Rattle.fusion_core.proofs.TouchSums.{at_index, some_at, read_is, read_twice}
use Rattle.fusion_core.proofs.TouchFields.{may, wide, next_low, load_after, place_after, draw_after, fill_after, link_after, node_low, drawn_low, IsAfter, rooms, finish, seat_low, load_size, load_touched}

pub draw_few : (v : SeatState) → draw_of v ≤ 1
draw_few v = grind arith

module _ (start : Table) (size : Size) (ws : List ℕ) (rs : List SeatRoom) (m : IsStateOf start size ws rs) (s : TouchState) (view : state_of start ws rs ≡ s) (i : ℕ) where
  long : length ws ≡ counter_at start + 1
  long = m.rule.walks.wide

  -- the numbers of nodes and of words are far from their types' ends
  pub nodes_few : size.nodes ≤ 1000000
  nodes_few = (let e : size.nodes ≡ start.nodes = m.nodes in let n : start.nodes ≤ 1000000 = m.rule.sound.few_nodes in omega arith)

  pub words_few : length ws ≤ 3000000
  words_few = (let w = long in let n : start.nodes ≤ 1000000 = m.rule.sound.few_nodes in let b : start.buckets ≤ 65536 = m.rule.sound.few_buckets in omega arith)

  here : (touch : Touch) → IsAllowed s i touch → IsAllowed (state_of start ws rs) i touch
  here touch a = subst (λ (z : TouchState). IsAllowed z i touch) (sym view) a

  -- the seat is there
  pub is_there : (touch : Touch) → IsAllowed s i touch → i < length rs
  is_there touch a = seat_low start ws rs i touch (here touch a)

  -- the seat's nodes, read twice
  pub nodes_again : (touch : Touch) → IsAllowed s i touch → (q r : SeatRoom) → q ≡ slice_index_or rs i q → r ≡ slice_index_or rs i r → (ns : List (ℕ × ℕ)) → q.seat.nodes ≡ ns → r.seat.nodes ≡ ns
  nodes_again touch a q r isq isr ns is = ap (λ (z : SeatRoom). z.seat.nodes) (sym (read_twice rs i r q (is_there touch a) isr isq)) ∙ is

  module _ (touch : Touch) (a : IsAllowed s i touch) (r : SeatRoom) (value : r ≡ slice_index_or rs i r) where
    at_seat : get_elem? rs i ≡ there_is r
    at_seat = at_index rs i r (is_there touch a) value

    may_step : MayStep start ws r.seat touch
    may_step = may start size ws rs m i r at_seat touch (here touch a)

    pub seen_wide : length r.seat.seen ≡ counter_at start + 1
    seen_wide = wide start size ws rs m i r at_seat

    abbrev After : List ℕ → SeatState → Type 0
    After xs w = IsAfter start size ws rs m i r at_seat xs w

    done : After (words_after start ws r.seat touch) (seat_after start ws r.seat touch) → (xs : List ℕ) (q : SeatRoom) → xs ≡ words_after start ws r.seat touch → q ≡ record r { seat = seat_after start ws r.seat touch }
        → IsStateOf start size xs (set rs i q) × Steps s i touch (state_of start xs (set rs i q))
    done after xs q isx isq =
        let o = finish start size ws rs m i r at_seat touch after xs q isx isq in
        (o.0, subst (λ (z : TouchState). Steps z i touch (state_of start xs (set rs i q))) view o.1)

    roomy : (xs : List ℕ) (w : SeatState) → After xs w → (length w.touched ≤ r.room) × (length w.placed ≤ r.room)
    roomy xs w after = rooms start size ws rs m i r at_seat xs w after

  -- ---- a load

  module _ (w : ℕ) (k : BlockKey) (a : IsAllowed s i (Seen w k)) where
    pub load_low : w < length ws
    load_low =
        let r = some_at rs i (is_there (Seen w k) a) in
        let l = next_low start size ws rs m i r.0 r.1 (word_of k) w (may start size ws rs m i r.0 r.1 (Seen w k) (here (Seen w k) a)) in
        let n = long in
        omega arith

    module _ (r : SeatRoom) (value : r ≡ slice_index_or rs i r) (kw : ℕ) (isk : kw ≡ word_of k) (x : ℕ) (isx : x ≡ slice_index_or ws w x) where
      load_done : After (Seen w k) a r value ws (seen_after start (word_of k) w (get_or ws w 0) r.seat)
      load_done = (let p : 0 < word_of k = omega arith in load_after start size ws rs m i r (at_seat (Seen w k) a r value) (word_of k) w p (may_step (Seen w k) a r value))

      load_same : seen_after (sized size.buckets size.nodes) kw w x r.seat ≡ seen_after start (word_of k) w (get_or ws w 0) r.seat
      load_same =
          load_size start size kw w x r.seat m.buckets m.nodes
          ∙ ap (λ (y : ℕ). seen_after start y w x r.seat) isk
          ∙ ap (λ (y : ℕ). seen_after start (word_of k) w y r.seat) (read_is ws w x load_low isx)

      pub load_seen : w < length r.seat.seen
      load_seen = (let l = load_low in let n = long in let q = seen_wide (Seen w k) a r value in omega arith)

      pub load_room : x ≢ 0 → w < 4 * size.buckets + size.nodes → length (touched_after kw w x r.seat.touched) ≤ r.room
      load_room ne lt =
          let o = (roomy (Seen w k) a r value ws (seen_after start (word_of k) w (get_or ws w 0) r.seat) load_done).0 in
          let e = load_touched start size kw w x r.seat ne lt in
          subst (λ (l : List (ℕ × ℕ)). length l ≤ r.room) (ap (λ (u : SeatState). u.touched) (sym load_same) ∙ e) o

      pub load_leaves : (q : SeatRoom) → q ≡ record r { seat = seen_after (sized size.buckets size.nodes) kw w x r.seat } → IsStateOf start size ws (set rs i q) × Steps s i (Seen w k) (state_of start ws (set rs i q))
      load_leaves q is = done (Seen w k) a r value load_done ws q refl (is ∙ ap (λ (u : SeatState). record r { seat = u }) load_same)

  -- ---- a key is placed

  module _ (e : ℕ) (k : BlockKey) (a : IsAllowed s i (Place e k)) where
    pub place_low : e < length ws
    place_low =
        let r = some_at rs i (is_there (Place e k) a) in
        let p = may start size ws rs m i r.0 r.1 (Place e k) (here (Place e k) a) in
        let n = long in
        let l : e < entries_in start = p.1 in
        omega arith

    module _ (r : SeatRoom) (value : r ≡ slice_index_or rs i r) (kw : ℕ) (isk : kw ≡ word_of k) (named : kw ≤ 2 ^ 48) where
      place_done : After (Place e k) a r value (set ws e (word_of k)) (put (word_of k) e r.seat)
      place_done =
          let p = may_step (Place e k) a r value in
          let some : 0 < word_of k = omega arith in
          place_after start size ws rs m i r (at_seat (Place e k) a r value) e (word_of k) some (subst (λ (y : ℕ). y ≤ 2 ^ 48) isk named) p.0 p.1 p.2

      pub place_seen : e < length r.seat.seen
      place_seen = (let l = place_low in let n = long in let q = seen_wide (Place e k) a r value in omega arith)

      pub place_room : (length (touched_after kw e kw r.seat.touched) ≤ r.room) × (length r.seat.placed < r.room)
      place_room =
          let o = roomy (Place e k) a r value (set ws e (word_of k)) (put (word_of k) e r.seat) place_done in
          let p : length (r.seat.placed ++ word_of k ∷ []) ≤ r.room = o.1 in
          let l = length-append r.seat.placed (word_of k ∷ []) in
          (subst (λ (y : ℕ). length (touched_after y e y r.seat.touched) ≤ r.room) (sym isk) o.0, omega arith)

      pub place_leaves : (q : SeatRoom) → q ≡ record r { seat = put kw e r.seat } → IsStateOf start size (set ws e kw) (set rs i q) × Steps s i (Place e k) (state_of start (set ws e kw) (set rs i q))
      place_leaves q is = done (Place e k) a r value place_done (set ws e kw) q (ap (λ (y : ℕ). set ws e y) isk) (is ∙ ap (λ (y : ℕ). record r { seat = put y e r.seat }) isk)

  -- ---- a number is drawn

  module _ (a : IsAllowed s i Node) where
    counter_same : counter_at (sized size.buckets size.nodes) ≡ counter_at start
    counter_same = (let b : size.buckets ≡ start.buckets = m.buckets in let n : size.nodes ≡ start.nodes = m.nodes in omega arith)

    pub draw_low : (at : ℕ) → at ≡ counter_at (sized size.buckets size.nodes) → at < length ws
    draw_low at is = (let n = long in let c = counter_same in omega arith)

    module _ (r : SeatRoom) (value : r ≡ slice_index_or rs i r) (at : ℕ) (isat : at ≡ counter_at (sized size.buckets size.nodes)) (x : ℕ) (isx : x ≡ slice_index_or ws at x) where
      pub number_is : x ≡ drawn start ws
      number_is = read_is ws at x (draw_low at isat) isx ∙ ap (λ (y : ℕ). get_or ws y 0) (isat ∙ counter_same)

      pub number_fits : x + 1 < 2 ^ 64
      number_fits = (let b = drawn_low start size ws rs m i r (at_seat Node a r value) in let e = number_is in omega arith)

      draw_done : After Node a r value (set ws (counter_at start) (drawn start ws + draw_of r.seat)) (drawn_after start.nodes (drawn start ws) r.seat)
      draw_done = draw_after start size ws rs m i r (at_seat Node a r value) (may_step Node a r value)

      pub draw_none : r.seat.nodes ≡ []
      draw_none = may_step Node a r value

      pub draw_leaves : (y : ℕ) (q : SeatRoom) → y ≡ x + draw_of r.seat → q ≡ record r { seat = drawn_after size.nodes x r.seat }
          → IsStateOf start size (set ws at y) (set rs i q) × Steps s i Node (state_of start (set ws at y) (set rs i q))
      draw_leaves y q isy is =
          done Node a r value draw_done (set ws at y) q
          (ap (λ (z : ℕ). set ws z y) (isat ∙ counter_same) ∙ ap (λ (z : ℕ). set ws (counter_at start) z) (isy ∙ ap (λ (z : ℕ). z + draw_of r.seat) number_is))
          (is ∙ ap (λ (z : ℕ). record r { seat = drawn_after z x r.seat }) m.nodes ∙ ap (λ (z : ℕ). record r { seat = drawn_after start.nodes z r.seat }) number_is)

  -- ---- a key is stored

  module _ (k : BlockKey) (a : IsAllowed s i (Fill k)) (r : SeatRoom) (value : r ≡ slice_index_or rs i r) where
    pub fill_some : r.seat.nodes ≢ []
    fill_some = may_step (Fill k) a r value

    module _ (n y : ℕ) (is : r.seat.nodes ≡ (n, y) ∷ []) where
      pub fill_low : n < size.nodes
      fill_low = (let l = node_low start size ws rs m i r (at_seat (Fill k) a r value) n y [] is in let e : size.nodes ≡ start.nodes = m.nodes in omega arith)

      pub fill_inside : 4 * size.buckets + n < length ws
      fill_inside = (let l = fill_low in let e : size.nodes ≡ start.nodes = m.nodes in let b : size.buckets ≡ start.buckets = m.buckets in let w = long in omega arith)

      pub fill_leaves : (kw : ℕ) (q : SeatRoom) → kw ≡ word_of k → kw ≤ 2 ^ 48 → q ≡ record r { seat = stored kw r.seat }
          → IsStateOf start size (set ws (4 * size.buckets + n) kw) (set rs i q) × Steps s i (Fill k) (state_of start (set ws (4 * size.buckets + n) kw) (set rs i q))
      fill_leaves kw q isk named isq =
          let last : (last_node r.seat.nodes).0 ≡ n = ap (λ (l : List (ℕ × ℕ)). (last_node l).0) is in
          let after0 = fill_after start size ws rs m i r (at_seat (Fill k) a r value) n y (word_of k) [] (subst (λ (z : ℕ). z ≤ 2 ^ 48) isk named) is in
          let after = subst (λ (z : ℕ). After (Fill k) a r value (set ws (4 * start.buckets + z) (word_of k)) (stored (word_of k) r.seat)) (sym last) after0 in
          done (Fill k) a r value after (set ws (4 * size.buckets + n) kw) q
          (ap (λ (z : ℕ). set ws (4 * size.buckets + n) z) isk ∙ ap (λ (z : ℕ). set ws (4 * z + n) (word_of k)) m.buckets ∙ ap (λ (z : ℕ). set ws (4 * start.buckets + z) (word_of k)) (sym last))
          (isq ∙ ap (λ (z : ℕ). record r { seat = stored z r.seat }) isk)

  -- ---- a node is linked

  module _ (w : ℕ) (a : IsAllowed s i (Link w)) where
    pub link_inside : w < length ws
    link_inside =
        let r = some_at rs i (is_there (Link w) a) in
        let p = may start size ws rs m i r.0 r.1 (Link w) (here (Link w) a) in
        let l = next_low start size ws rs m i r.0 r.1 (last_node r.0.seat.nodes).1 w p.1 in
        let n = long in
        omega arith

    module _ (r : SeatRoom) (value : r ≡ slice_index_or rs i r) where
      pub link_some : r.seat.nodes ≢ []
      link_some none = (let p : 0 < (last_node r.seat.nodes).1 = (may_step (Link w) a r value).0 in let z : (last_node r.seat.nodes).1 ≡ 0 = ap (λ (l : List (ℕ × ℕ)). (last_node l).1) none in absurd (omega arith))

      module _ (n k : ℕ) (is : r.seat.nodes ≡ (n, k) ∷ []) where
        last_is : last_node r.seat.nodes ≡ (n, k)
        last_is = ap last_node is

        pub node_inside : n < size.nodes
        node_inside = (let l = node_low start size ws rs m i r (at_seat (Link w) a r value) n k [] is in let e : size.nodes ≡ start.nodes = m.nodes in omega arith)

        link_done : After (Link w) a r value (set ws w (suc n)) (hung k w n (4 * start.buckets + n) r.seat)
        link_done =
            let p0 = may_step (Link w) a r value in
            let P : ℕ × ℕ → Type 0 = λ q. (0 < q.1) × IsNext start r.seat.seen q.1 w × (entries_in start ≤ w) × (get_or ws w 0 ≡ 0) in
            let p : P (n, k) = subst P last_is p0 in
            link_after start size ws rs m i r (at_seat (Link w) a r value) w n k [] p.0 is p.1 p.2 p.3

        pub link_seen : (w < length r.seat.seen) × (4 * size.buckets + n < length r.seat.seen)
        link_seen =
            let l = node_inside in
            let e : size.nodes ≡ start.nodes = m.nodes in
            let b : size.buckets ≡ start.buckets = m.buckets in
            let x = link_inside in
            let y = long in
            let q = seen_wide (Link w) a r value in
            (omega arith, omega arith)

        pub link_room : (length (touched_after k (4 * size.buckets + n) k r.seat.touched) ≤ r.room) × (length r.seat.placed < r.room)
        link_room =
            let o = roomy (Link w) a r value (set ws w (suc n)) (hung k w n (4 * start.buckets + n) r.seat) link_done in
            let p : length (r.seat.placed ++ k ∷ []) ≤ r.room = o.1 in
            let l = length-append r.seat.placed (k ∷ []) in
            (subst (λ (z : ℕ). length (touched_after k (4 * z + n) k r.seat.touched) ≤ r.room) (sym m.buckets) o.0, omega arith)

        pub link_leaves : (y : ℕ) (q : SeatRoom) → y ≡ n + 1 → q ≡ record r { seat = hung k w n (4 * size.buckets + n) r.seat }
            → IsStateOf start size (set ws w y) (set rs i q) × Steps s i (Link w) (state_of start (set ws w y) (set rs i q))
        link_leaves y q isy isq =
            let P : ℕ × ℕ → Type 0 = λ z. After (Link w) a r value (set ws w (suc z.0)) (hung z.1 w z.0 (4 * start.buckets + z.0) r.seat) in
            let after = subst P (sym last_is) link_done in
            done (Link w) a r value after (set ws w y) q
            (ap (λ (z : ℕ). set ws w z) (let e : y ≡ suc n = omega arith in e) ∙ ap (λ (z : ℕ × ℕ). set ws w (suc z.0)) (sym last_is))
            (isq ∙ ap (λ (z : ℕ). record r { seat = hung k w n (4 * z + n) r.seat }) m.buckets ∙ ap (λ (z : ℕ × ℕ). record r { seat = hung z.1 w z.0 (4 * start.buckets + z.0) r.seat }) (sym last_is))
