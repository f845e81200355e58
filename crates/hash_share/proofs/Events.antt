-- Each step on the words of a share is a step of the touch machine.
use Rattle.std.proofs.Common.{◌≡◌, ◌≢◌, ℕ, suc, ◌+◌, ◌*◌, ◌%◌, ◌^◌, ◌<◌, ◌≤◌, Bool, true, false, cond, List, [], ◌∷◌, length, map, set, get_or, refl, sym, ap, ◌∙◌, subst, arith, inl, inr}
use Rattle.std.specs.Prelude.{nat_lt}
use Rattle.std.proofs.lemmas.Bool.{ne_eqb, lt-ltb, le-ltb, ltb-true, ltb-false}
use Rattle.std.proofs.lemmas.List.{set-get_or, map-set}
use mathlib.Core.Option.{some as there_is}
use lib.ListN.{get_elem?}
use Rattle.atomic_table.specs.Table.{State}
use Rattle.atomic_table.proofs.Lists.{set_again}
use Rattle.voxel_block.specs.declared.key.BlockKey.{BlockKey}
use Rattle.voxel_block.specs.Words.{word_of}
use Rattle.spatial_hash.specs.Table.{Table, entries_in}
use Rattle.fusion_core.specs.declared.touch.event.Touch.{Touch}
use Rattle.fusion_core.specs.declared.touch.event.Touch.TheVariants as touch
use Rattle.fusion_core.specs.TouchSeats.{SeatState}
use Rattle.fusion_core.specs.TouchWords.{shown, drawn, link_at, IsOnWalk}
use Rattle.fusion_core.specs.TouchMachine.{TouchState, MayStep, words_after, seat_after}
use Rattle.fusion_core.specs.TouchSteps.{IsNext, IsNextKey, seen_after, drawn_after, draw_of, last_node, saw as seat_saw, found as seat_found, drew as seat_drew, past as seat_past, hung as seat_hung}
use Rattle.fusion_core.proofs.TouchSums.{at_map}
use Rattle.fusion_core.proofs.TouchGrowing.{walk_low}
use Rattle.fusion_core.proofs.TouchMoves as move
use Rattle.hash_share.specs.declared.view.View.{View}
use Rattle.hash_share.specs.Rule.{seat_in}
use Rattle.hash_share.specs.Steps.{Held, found, saw, drew, past, hung}
use Rattle.hash_share.proofs.Moves.{drawn_next}
use Rattle.hash_share.specs.Events.{IsEvent, IsNone, IsSeated, after, LookIsSeen, FollowIsSeen, TryIsPlaceOrSeen, DrawIsNode, StoreIsFill, HangIsLinkOrSeen, WeighIsNone}

-- a key word that is not 0 was seen
seen_key : (t : Table) (k w x : ℕ) (v : SeatState) → 0 < x → w < entries_in t → seen_after t k w x v ≡ seat_found k w x v
seen_key t k w x v more low = rw (ne_eqb x 0 (omega arith), lt-ltb w (entries_in t) low) refl

-- a link word that is not 0 was seen
seen_link : (t : Table) (k w x : ℕ) (v : SeatState) → 0 < x → entries_in t ≤ w → seen_after t k w x v ≡ seat_saw w x v
seen_link t k w x v more high = rw (ne_eqb x 0 (omega arith), le-ltb w (entries_in t) high) refl

module _ (start : Table) (seats i : ℕ) (s : State ℕ View) (m : Held) (o : IsSeated start seats i s m) where
  abbrev us : List SeatState
  us = map seat_in s.views

  me : get_elem? us i ≡ there_is (seat_in m.0)
  me = at_map seat_in s.views i m.0 o.view

  begun : m.0.start ≡ start
  begun = o.rule.begun i m.0 o.view o.part

  abbrev state : List ℕ → List SeatState → TouchState
  state ws vs = record { start = start; words = ws; seats = vs }

  -- a step that the machine allows, where the words and the seat are as after it
  event : (touch : Touch) (w x : ℕ) (n : Held) → MayStep start s.words (seat_in m.0) touch → set s.words w x ≡ words_after start s.words (seat_in m.0) touch → seat_in n.0 ≡ seat_after start s.words (seat_in m.0) touch
      → IsEvent start i touch s (after s w x i m n)
  event touch w x n may words seat = (
    (seat_in m.0, me, may),
    (
      seat_in m.0,
      me,
      ap (state (set s.words w x)) (map-set seat_in s.views i n.0) ∙ ap (λ (ws : List ℕ). state ws (set us i (seat_in n.0))) words ∙ ap (λ (v : SeatState). state (words_after start s.words (seat_in m.0) touch) (set us i v)) seat,
    ),
  )

  -- the word is written as it was, and the seat stays
  nothing : (w : ℕ) (n : Held) → n ≡ m → IsNone start s (after s w (get_or s.words w 0) i m n)
  nothing w n same =
      ap (λ (ws : List ℕ). state ws (map seat_in (set s.views i n.0))) (set-get_or s.words w 0)
      ∙ ap (λ (h : Held). state s.words (map seat_in (set s.views i h.0))) same
      ∙ ap (λ (vs : List View). state s.words (map seat_in vs)) (set_again s.views i m.0 o.view)

  -- a load of a word of the walk that is not 0
  load : (w : ℕ) (b : BlockKey) (n : Held) → IsNext start m.0.seen (word_of b) w → seat_in n.0 ≡ seen_after start (word_of b) w (get_or s.words w 0) (seat_in m.0)
      → IsEvent start i (touch.Seen w b) s (after s w (get_or s.words w 0) i m n)
  load w b n next is = event (touch.Seen w b) w (get_or s.words w 0) n next (set-get_or s.words w 0) is

  load_key : (w : ℕ) (b : BlockKey) (n : Held) → IsNextKey start m.0.seen (word_of b) w → 0 < get_or s.words w 0 → n ≡ (found (word_of b) w (get_or s.words w 0) m.0, m.1)
      → IsEvent start i (touch.Seen w b) s (after s w (get_or s.words w 0) i m n)
  load_key w b n next more is =
      let on : IsOnWalk (shown start s.words) w = move.next_key start seats i s.words us (seat_in m.0) o.rule.rule me w (word_of b) next in
      let low : w < entries_in start = walk_low start s.words w o.rule.rule.walks on in
      load w b n (inl next) (ap (λ (h : Held). seat_in h.0) is ∙ sym (seen_key start (word_of b) w (get_or s.words w 0) (seat_in m.0) more low))

  load_link : (w j : ℕ) (b : BlockKey) (n : Held) → w ≡ link_at start j → IsNext start m.0.seen (word_of b) w → 0 < get_or s.words w 0 → n ≡ (saw w (get_or s.words w 0) m.0, m.1)
      → IsEvent start i (touch.Seen w b) s (after s w (get_or s.words w 0) i m n)
  load_link w j b n here next more is =
      load w b n next (ap (λ (h : Held). seat_in h.0) is ∙ sym (seen_link start (word_of b) w (get_or s.words w 0) (seat_in m.0) more (omega arith)))

pub look_is_seen : LookIsSeen
look_is_seen start seats i s m n o slots w b next told = ((λ zero_there. nothing start seats i s m o w n (told.0 zero_there)), (λ more. load_key start seats i s m o w b n next more (told.1 more)))

pub follow_is_seen : FollowIsSeen
follow_is_seen start seats i s m n o slots w j b here next told =
    ((λ zero_there. nothing start seats i s m o w n (told.0 zero_there).0), (λ more. load_link start seats i s m o w j b n here (inr (j, here, next)) more (told.1 more).0))

pub try_is_place_or_seen : TryIsPlaceOrSeen
try_is_place_or_seen start seats i s m n o slots w e b le here passes told =
    let next : IsNextKey start m.0.seen (word_of b) w = inl (e, le, here, passes) in
    let on : IsOnWalk (shown start s.words) w = move.next_key start seats i s.words (map seat_in s.views) (seat_in m.0) o.rule.rule (me start seats i s m o) w (word_of b) next in
    let low : w < entries_in start = walk_low start s.words w o.rule.rule.walks on in (
      (λ free. event start seats i s m o (touch.Place w b) w (word_of b) n (inl next, low, free) refl (ap (λ (h : Held). seat_in h.0) (told.0 free))),
      (λ more. load_key start seats i s m o w b n next more (told.1 more)),
    )

-- the number that was drawn, and what is written, are those of the machine
drawn_seat : (t : Table) (c : ℕ) (v : View) (n : View) → (c < t.nodes → n ≡ drew c v) → (t.nodes ≤ c → n ≡ past c v) → seat_in n ≡ drawn_after t.nodes c (seat_in v)
drawn_seat t c v n low high = by_test (nat_lt c t.nodes) refl
  where
    by_test : (b : Bool) → nat_lt c t.nodes ≡ b → seat_in n ≡ cond b (seat_drew c (seat_in v)) (seat_past c (seat_in v))
    by_test true is = ap seat_in (low (omega (arith, ltb-true c t.nodes is)))
    by_test false is = ap seat_in (high (omega (arith, ltb-false c t.nodes is)))

pub draw_is_node : DrawIsNode
draw_is_node start seats i s m n o slots w add here no_nodes adds told =
    let st : m.0.start ≡ start = begun start seats i s m o in
    let x : get_or s.words w 0 ≡ drawn start s.words = ap (λ (b : ℕ). get_or s.words b 0) here in
    let next : (get_or s.words w 0 + add) % 2 ^ 64 ≡ drawn start s.words + draw_of (seat_in m.0) = drawn_next start seats i s m.0 o.rule o.view w add x adds in
    let S : ℕ → ℕ → Type 0 = λ nodes c. seat_in n.0 ≡ drawn_after nodes c (seat_in m.0) in
    let seat : S m.0.start.nodes (get_or s.words w 0) = drawn_seat m.0.start (get_or s.words w 0) m.0 n.0 (λ lt. ap (λ (h : Held). h.0) (told.0 lt)) (λ le. ap (λ (h : Held). h.0) (told.1 le)) in
    event start seats i s m o touch.Node w ((get_or s.words w 0 + add) % 2 ^ 64) n no_nodes
    (ap (λ (y : ℕ). set s.words w y) next ∙ ap (λ (e : ℕ). set s.words e (drawn start s.words + draw_of (seat_in m.0))) here)
    (subst (S start.nodes) x (subst (λ (t : Table). S t.nodes (get_or s.words w 0)) st seat))

some_node : (a x : ℕ) (more ns : List (ℕ × ℕ)) → ns ≡ (a, x) ∷ more → ns ≢ []
some_node a x more ns is none_there = (let q : 0 ≡ suc (length more) = ap length (sym none_there ∙ is) in absurd (omega arith))

pub store_is_fill : StoreIsFill
store_is_fill start seats i s m n o slots w a x more b is here told =
    let last : last_node m.0.nodes ≡ (a, x) = ap last_node is in
    let place : w ≡ 4 * start.buckets + (last_node m.0.nodes).0 = here ∙ ap (λ (p : ℕ × ℕ). 4 * start.buckets + p.0) (sym last) in
    event start seats i s m o (touch.Fill b) w (word_of b) n (some_node a x more m.0.nodes is) (ap (λ (e : ℕ). set s.words e (word_of b)) place) (ap (λ (h : Held). seat_in h.0) told)

pub hang_is_link_or_seen : HangIsLinkOrSeen
hang_is_link_or_seen start seats i s m n o slots w j a more b some is here next told =
    let st : m.0.start ≡ start = begun start seats i s m o in
    let last : (a, word_of b) ≡ last_node m.0.nodes = sym (ap last_node is) in
    let May : ℕ × ℕ → Type 0 = λ p. (0 < p.1) × IsNext start m.0.seen p.1 w × (entries_in start ≤ w) × (get_or s.words w 0 ≡ 0) in
    let high : entries_in start ≤ w = omega (arith, here) in (
      (λ free.
          let won : n ≡ (hung (word_of b) w a (4 * m.0.start.buckets + a) m.0, m.1) = told.0 free a refl in
          event start seats i s m o (touch.Link w) w (suc a) n (subst May last (some, inr (j, here, next), high, free))
          (ap (λ (p : ℕ × ℕ). set s.words w (suc p.0)) last)
          (ap (λ (h : Held). seat_in h.0) won
          ∙ ap (λ (t : Table). seat_hung (word_of b) w a (4 * t.buckets + a) (seat_in m.0)) st
          ∙ ap (λ (p : ℕ × ℕ). seat_hung p.1 w p.0 (4 * start.buckets + p.0) (seat_in m.0)) last)),
      (λ full. load_link start seats i s m o w j b n here (inr (j, here, next)) full (told.1 full).0),
    )

pub weigh_is_none : WeighIsNone
weigh_is_none start seats i s m n o slots told = nothing start seats i s m o 0 n told.0
