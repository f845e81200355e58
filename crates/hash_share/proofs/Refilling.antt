-- A table is filled with the keys of a share.
use Rattle.std.proofs.Common.{◌≡◌, ◌≢◌, ℕ, suc, ◌+◌, ◌-◌, ◌*◌, ◌/◌, ◌%◌, ◌<◌, ◌≤◌, eqb, cond, List, [], ◌∷◌, length, map, get_or, true, false, refl, sym, ap, ◌∙◌, arith, inl, inr, subst}
use Rattle.std.specs.Prelude.{◌⊎◌, Some, None, nat_lt, sum_by}
use Rattle.std.specs.Option.{is_some}
use Rattle.std.specs.FinMap.{get, len, contains_key, get-insert, len-insert}
use Rattle.std.specs.Ordering.{eq_by_cmp}
use Rattle.std.proofs.lemmas.List.Sums.{sum_by-cons}
use Rattle.std.proofs.lemmas.Bool.{cases_eq, cases_lt, cases_Bool, cond-true, cond-false}
use mathlib.Core.Option.{some as there_is}
use lib.ListN.{get_elem?}
use Rattle.atomic_table.specs.Table.{State}
use Rattle.voxel_block.specs.declared.key.BlockKey.{BlockKey}
use Rattle.voxel_block.specs.Keys.{key_cmp}
use Rattle.voxel_block.specs.Words.{key_of}
use Rattle.voxel_block.proofs.KeyLaws.{keys_total, same_key_is, key_itself}
use Rattle.voxel_block.proofs.WordLaws.{word_of_read}
use Rattle.spatial_hash.specs.Table.{Table, entries_in, key_word, link_word}
use Rattle.spatial_hash.specs.Hash.{home, bucket_of}
use Rattle.spatial_hash.specs.Walk.{IsFullFor, IsFilled, nodes_for, bucket_is_full}
use Rattle.spatial_hash.specs.Sound.{Leads}
use Rattle.spatial_hash.specs.Contents.{contents, pairs_from}
use Rattle.spatial_hash.specs.Lookup.{IsFreeAt}
use Rattle.spatial_hash.proofs.Homes.{home_is, home_low}
use Rattle.spatial_hash.proofs.Maps.{cases_option, pairs_none, pairs_some}
use Rattle.hash_share.specs.declared.view.View.{View}
use Rattle.fusion_core.specs.TouchCounts.{times, firsts}
use Rattle.fusion_core.specs.TouchWords.{shown, drawn, IsOnWalk}
use Rattle.fusion_core.specs.TouchRule.{TouchRuleHolds, owners_in, placings}
use Rattle.hash_share.specs.Rule.{seat_in, Touches}
use Rattle.hash_share.specs.Seats.{cell_in}
use Rattle.hash_share.specs.Refill.{IsEnd, Gains, below, IsLive, IsRefilled}
use Rattle.fusion_core.specs.TouchSeats.{SeatState}
use Rattle.fusion_core.proofs.TouchSums.{at_map, terms_le, firsts-cons}
use Rattle.fusion_core.proofs.TouchGrowing.{led_node, walk_node}
use Rattle.fusion_core.proofs.TouchSeeing.{filled_down}
use Rattle.hash_share.proofs.Parts.{dealt_same, origin_same, sum_only}

-- ---- spare nodes by number

below-one : (a n : ℕ) → ◌≡◌ {A = ℕ} (cond (nat_lt a (n + 1)) 1 0) (cond (nat_lt a n) 1 0 + cond (eqb a n) 1 0)
below-one a n = grind arith

below-cons : (n : ℕ) (p : ℕ × ℕ) (l : List (ℕ × ℕ)) → below n (p ∷ l) ≡ cond (nat_lt p.0 n) 1 0 + below n l
below-cons n p l = sum_by-cons (λ (q : ℕ × ℕ). cond (nat_lt q.0 n) 1 0) p l

pub below_more : (n : ℕ) (l : List (ℕ × ℕ)) → below (n + 1) l ≡ below n l + firsts n l
below_more n [] = omega arith
below_more n (p ∷ ps) = omega (arith, below-one p.0 n, below_more n ps, below-cons (n + 1) p ps, below-cons n p ps, firsts-cons n p ps)

below-most : (a n : ℕ) → ◌≤◌ (cond (nat_lt a n) 1 0) 1
below-most a n = grind arith

pub below_few : (n : ℕ) (l : List (ℕ × ℕ)) → below n l ≤ length l
below_few n [] = omega arith
below_few n (p ∷ ps) = omega (arith, below-most p.0 n, below_few n ps, below-cons n p ps)

none-below : (a : ℕ) → ◌≡◌ {A = ℕ} (cond (nat_lt a 0) 1 0) 0
none-below a = grind arith

below-zero : (l : List (ℕ × ℕ)) → below 0 l ≡ 0
below-zero [] = refl
below-zero (p ∷ ps) = omega (arith, below-zero ps, none-below p.0, below-cons 0 p ps)

-- ---- the end

pub ended : (start : Table) (seats id : ℕ) (ws : List ℕ) (v : View) (s : State ℕ View) → Touches start seats s → get_elem? s.views id ≡ there_is v → s.words ≡ ws → v.part ≡ seats → IsEnd start ws v
ended start seats id ws v s o me is whole =
    let us : List SeatState = map seat_in s.views in
    let r : TouchRuleHolds start seats s.words us = o.rule in
    let at : get_elem? us id ≡ there_is (seat_in v) = at_map seat_in s.views id v me in
    let spare : (i : ℕ) (u : SeatState) → i ≢ id → get_elem? us i ≡ there_is u → u.part ≡ 0 = λ i u ne there. (
    let le : v.part + u.part ≤ sum_by (λ (z : SeatState). z.part) us = terms_le (λ (z : SeatState). z.part) us id i (seat_in v) u ne at there in
    let all : sum_by (λ (z : SeatState). z.part) us ≡ seats = r.parts in omega arith) in
    let nodes : (n : ℕ) → owners_in us n ≡ firsts n v.nodes = λ n. sum_only (λ (z : SeatState). firsts n z.nodes) us id (seat_in v) at (λ i u ne there. ap (firsts n) ((r.each i u there).idle (spare i u ne there)).2) in
    let keys : (x : ℕ) → placings us x ≡ times x v.placed = λ x. sum_only (λ (z : SeatState). times x z.placed) us id (seat_in v) at (λ i u ne there. ap (times x) ((r.each i u there).idle (spare i u ne there)).1) in
    let P : List ℕ → Type 0 = λ xs. IsEnd start xs v in
    subst P is (record {
      sound = r.sound;
      walks = r.walks;
      dealt = dealt_same start s.words (owners_in us) (λ n. firsts n v.nodes) (λ n. sym (nodes n)) r.dealt;
      origin = origin_same start s.words (placings us) (λ x. times x v.placed) (λ x. sym (keys x)) r.origin;
      fits = r.each id (seat_in v) at;
    })

-- ---- live entries

module _ (start : Table) (ws : List ℕ) (v : View) (z : IsEnd start ws v) where
  pub live-walk : (d : ℕ) → d < entries_in start → IsLive start ws v d → IsOnWalk (shown start ws) d
  live-walk d lt l =
      elim (cases_lt d (4 * start.buckets)) [
        | inl low ↦ inl low
        | inr ge ↦ (
            let split : d ≡ 4 * start.buckets + (d - 4 * start.buckets) = omega arith in
            let same : get_or ws d 0 ≡ get_or ws (4 * start.buckets + (d - 4 * start.buckets)) 0 = ap (λ (x : ℕ). get_or ws x 0) split in
            let some : 0 < get_or ws d 0 = l.0 in
            let out : d - 4 * start.buckets < drawn start ws = elim (cases_lt (d - 4 * start.buckets) (drawn start ws)) [
              | inl y ↦ y
              | inr n ↦ (let k : get_or ws (4 * start.buckets + (d - 4 * start.buckets)) 0 ≡ 0 = (z.dealt.fresh (d - 4 * start.buckets) (omega arith) n).1 in absurd (omega arith))
            ] in
            let r = z.dealt.walked (d - 4 * start.buckets) (omega arith) out (l.1 (d - 4 * start.buckets) split) in
            inr (d - 4 * start.buckets, split, led_node (shown start ws) (home start.buckets (get_or ws (4 * start.buckets + (d - 4 * start.buckets)) 0)) (d - 4 * start.buckets) r.1.0 (home_low start.buckets _ z.sound.some_buckets) r.1.1))
      ]

  no-spare : (d : ℕ) → IsOnWalk (shown start ws) d → (n : ℕ) → d ≡ 4 * start.buckets + n → firsts n v.nodes ≡ 0
  no-spare d (inl lt) n e = absurd (omega arith)
  no-spare d (inr m) n e = let o = walk_node start ws (λ n. firsts n v.nodes) m.0 z.walks z.dealt m.2 in let a : d ≡ 4 * start.buckets + m.0 = m.1 in let same : m.0 ≡ n = omega arith in subst (λ (x : ℕ). firsts x v.nodes ≡ 0) same o.free

  pub walk-live : (d : ℕ) → IsOnWalk (shown start ws) d → 0 < get_or ws d 0 → IsLive start ws v d
  walk-live d on some = (some, no-spare d on)

  pub one-place : (d e : ℕ) (k : BlockKey) → d < entries_in start → e < entries_in start → IsLive start ws v d → IsLive start ws v e → key_of (get_or ws d 0) ≡ Some k → key_of (get_or ws e 0) ≡ Some k → d ≡ e
  one-place d e k ld le d-live e-live kd ke =
      z.walks.differ d e (live-walk d ld d-live) (live-walk e le e-live) d-live.0 (sym (word_of_read (get_or ws d 0) k kd) ∙ word_of_read (get_or ws e 0) k ke)

  -- ---- before an entry's key comes in

  pub is-new : (r : Table) (e : ℕ) (k : BlockKey) → IsRefilled start ws v r e → e < entries_in start → IsLive start ws v e → key_of (get_or ws e 0) ≡ Some k → get (contents r) k ≡ None
  is-new r e k f lt live is =
      elim (cases_option (get (contents r) k)) [
        | inl none ↦ none
        | inr some ↦ (
            let o = f.only k some.0 some.1 in
            let same : o.0 ≡ e = one-place o.0 e k o.2 lt o.3 live o.4 is in
            let less : o.0 < e = o.1 in absurd (omega arith))
      ]

  home-of : (e : ℕ) (k : BlockKey) (r : Table) → IsRefilled start ws v r e → key_of (get_or ws e 0) ≡ Some k → bucket_of r.buckets k ≡ home start.buckets (get_or ws e 0)
  home-of e k r f is = ap (λ (b : ℕ). bucket_of b k) f.size.0 ∙ sym (home_is start.buckets (get_or ws e 0) k is)

  -- an entry of a bucket is of its key's bucket
  own-bucket : (e : ℕ) → e < 4 * start.buckets → 0 < get_or ws e 0 → home start.buckets (get_or ws e 0) ≡ e / 4
  own-bucket e lt some =
      let split : e ≡ 4 * (e / 4) + e % 4 = omega arith in
      let same : get_or ws e 0 ≡ get_or ws (4 * (e / 4) + e % 4) 0 = ap (λ (x : ℕ). get_or ws x 0) split in
      ap (home start.buckets) same ∙ z.walks.at_home (e / 4) (e % 4) (omega arith) (omega arith) (omega arith)

  some-link : (h : ℕ) (ns : List ℕ) (l : ℕ) → Leads (shown start ws) h h ns l → h ≢ l → 0 < link_word (shown start ws) h
  some-link h [] l r ne = absurd (ne r)
  some-link h (x ∷ ns) l r ne = let a : link_word (shown start ws) h ≡ suc x = r.0.link in omega arith

  -- the bucket of a node's key is filled
  pub bucket-filled : (n : ℕ) → n < start.nodes → IsLive start ws v (4 * start.buckets + n) → (a : ℕ) → a < 4 → 0 < get_or ws (4 * home start.buckets (get_or ws (4 * start.buckets + n) 0) + a) 0
  bucket-filled n lt live a la =
      let h : ℕ = home start.buckets (get_or ws (4 * start.buckets + n) 0) in
      let lh : h < start.buckets = home_low start.buckets (get_or ws (4 * start.buckets + n) 0) z.sound.some_buckets in
      let on = live-walk (4 * start.buckets + n) (omega arith) live in
      let out : n < drawn start ws = elim (cases_lt n (drawn start ws)) [
        | inl y ↦ y
        | inr g ↦ (let k : get_or ws (4 * start.buckets + n) 0 ≡ 0 = (z.dealt.fresh n lt g).1 in let some : 0 < get_or ws (4 * start.buckets + n) 0 = live.0 in absurd (omega arith))
      ] in
      let r = z.dealt.walked n lt out (live.1 n refl) in
      filled_down start ws h 3 z.walks lh (omega arith) (z.walks.full h lh (some-link h r.1.0 (start.buckets + n) r.1.1 (λ q. absurd (omega arith)))) a (omega arith)

  pub not-full : (r : Table) (e : ℕ) (k : BlockKey) → IsRefilled start ws v r e → e < entries_in start → IsLive start ws v e → key_of (get_or ws e 0) ≡ Some k → IsFullFor r k → ⊥
  not-full r e k f lt live is full =
      elim (cases_lt e (4 * start.buckets)) [
        | inl low ↦ (
            let h : bucket_of r.buckets k ≡ e / 4 = home-of e k r f is ∙ own-bucket e low live.0 in
            let some : 0 < key_word r (4 * bucket_of r.buckets k + e % 4) = full.0 (e % 4) (omega arith) in
            let at : 4 * bucket_of r.buckets k + e % 4 ≡ e = omega arith in
            let none : key_word r e ≡ 0 = f.free e low (omega arith) in
            let same : key_word r (4 * bucket_of r.buckets k + e % 4) ≡ key_word r e = ap (key_word r) at in
            absurd (omega arith))
        | inr ge ↦ (let l : r.linked ≤ e - 4 * start.buckets = f.linked in let a : r.linked ≡ r.nodes = full.1 in let b : r.nodes ≡ start.nodes = f.size.1 in absurd (omega arith))
      ]

-- ---- one entry more

cases_key : (a b : BlockKey) → (a ≡ b) ⊎ ((a ≢ b) × (eq_by_cmp key_cmp a b ≡ false))
cases_key a b =
    elim (cases_Bool (eq_by_cmp key_cmp a b)) [
      | inl t ↦ inl (same_key_is a b t)
      | inr f ↦ inr (λ q. (let e : false ≡ true = sym f ∙ ap (eq_by_cmp key_cmp a) (sym q) ∙ key_itself a in absurd (cc)), f)
    ]

above-one : (x : ℕ) → 0 < x → ◌≡◌ {A = ℕ} (cond (nat_lt 0 x) 1 0) 1
above-one x p = grind (arith, p)

not-above : (x : ℕ) → x ≡ 0 → ◌≡◌ {A = ℕ} (cond (nat_lt 0 x) 1 0) 0
not-above x p = grind (arith, p)

left-more : (t : Table) (e : ℕ) → e < entries_in t → length (pairs_from (entries_in t - e) t e) ≤ length (pairs_from (entries_in t - (e + 1)) t (e + 1)) + 1
left-more t e lt =
    let m : ℕ = entries_in t - (e + 1) in
    let is : entries_in t - e ≡ suc (entries_in t - (e + 1)) = omega arith in
    let at : length (pairs_from (entries_in t - e) t e) ≡ length (pairs_from (suc (entries_in t - (e + 1))) t e) = ap (λ (n : ℕ). length (pairs_from n t e)) is in
    elim (cases_option (key_of (key_word t e))) [
      | inl none ↦ (let q : length (pairs_from (suc (entries_in t - (e + 1))) t e) ≡ length (pairs_from (entries_in t - (e + 1)) t (e + 1)) = ap length (pairs_none (entries_in t - (e + 1)) t e none) in omega arith)
      | inr some ↦ (let q : length (pairs_from (suc (entries_in t - (e + 1))) t e) ≡ suc (length (pairs_from (entries_in t - (e + 1)) t (e + 1))) = ap length (pairs_some (entries_in t - (e + 1)) t e some.0 some.1) in omega arith)
    ]

left-same : (t : Table) (e : ℕ) → e < entries_in t → key_word t e ≡ 0 → length (pairs_from (entries_in t - e) t e) ≡ length (pairs_from (entries_in t - (e + 1)) t (e + 1))
left-same t e lt z =
    let is : entries_in t - e ≡ suc (entries_in t - (e + 1)) = omega arith in
    ap (λ (n : ℕ). length (pairs_from n t e)) is ∙ ap length (pairs_none (entries_in t - (e + 1)) t e (ap key_of z))

module _ (start : Table) (ws : List ℕ) (v : View) (z : IsEnd start ws v) (r : Table) (e : ℕ) (f : IsRefilled start ws v r e) (lt : e < entries_in start) where
  abbrev n : ℕ
  n = e - 4 * start.buckets

  -- no key comes in
  same-keys : (IsLive start ws v e → ⊥) → (e < 4 * start.buckets → get_or ws e 0 ≡ 0) → (start.nodes ≤ drawn start ws → key_word start e ≡ 0) → (start.nodes ≤ drawn start ws → 4 * start.buckets ≤ e → 0 < firsts n v.nodes) → (4 * start.buckets ≤ e → start.nodes ≤ drawn start ws → start.linked ≤ n) → IsRefilled start ws v r (e + 1)
  same-keys dead zero-there none spare past = record {
    size = f.size;
    same = λ d ld less. elim (cases_eq d e) [
      | inl q ↦ (let low : e < 4 * start.buckets = omega arith in ap (key_word r) q ∙ f.free e low (omega arith) ∙ sym (zero-there low) ∙ ap (λ (x : ℕ). get_or ws x 0) (sym q))
      | inr ne ↦ f.same d ld (omega arith)
    ];
    free = λ d ld le. f.free d ld (omega arith);
    has = λ d k less ld live is. elim (cases_eq d e) [
      | inl q ↦ absurd (dead (subst (IsLive start ws v) q live))
      | inr ne ↦ f.has d k (omega arith) ld live is
    ];
    only = λ k c g. (let o = f.only k c g in let l : o.0 < e = o.1 in (o.0, omega arith, o.2, o.3, o.4, o.5));
    linked = (let l : r.linked ≤ e - 4 * start.buckets = f.linked in omega arith);
    many = λ all. (
        let old : e - 4 * start.buckets ≤ r.linked + below (e - 4 * start.buckets) v.nodes = f.many all in
        elim (cases_lt e (4 * start.buckets)) [
          | inl low ↦ omega arith
          | inr ge ↦ (
              let m = below_more (e - 4 * start.buckets) v.nodes in
              let s : 0 < firsts (e - 4 * start.buckets) v.nodes = spare all ge in
              let is : e + 1 - 4 * start.buckets ≡ e - 4 * start.buckets + 1 = omega arith in
              let b : below (e + 1 - 4 * start.buckets) v.nodes ≡ below (e - 4 * start.buckets + 1) v.nodes = ap (λ (x : ℕ). below x v.nodes) is in
              omega arith)
        ]);
    count = λ all. (
        let old : len (contents start) + (e - 4 * start.buckets - start.linked) ≤ len (contents r) + below (e - 4 * start.buckets) v.nodes + length (pairs_from (entries_in start - e) start e) = f.count all in
        let same : length (pairs_from (entries_in start - e) start e) ≡ length (pairs_from (entries_in start - (e + 1)) start (e + 1)) = left-same start e lt (none all) in
        elim (cases_lt e (4 * start.buckets)) [
          | inl low ↦ (
              let is : e + 1 - 4 * start.buckets ≡ 0 = omega arith in
              let is0 : e - 4 * start.buckets ≡ 0 = omega arith in
              let b : below (e + 1 - 4 * start.buckets) v.nodes ≡ below (e - 4 * start.buckets) v.nodes = ap (λ (x : ℕ). below x v.nodes) (is ∙ sym is0) in
              omega arith)
          | inr ge ↦ (
              let m = below_more (e - 4 * start.buckets) v.nodes in
              let s : 0 < firsts (e - 4 * start.buckets) v.nodes = spare all ge in
              let is : e + 1 - 4 * start.buckets ≡ e - 4 * start.buckets + 1 = omega arith in
              let b : below (e + 1 - 4 * start.buckets) v.nodes ≡ below (e - 4 * start.buckets + 1) v.nodes = ap (λ (x : ℕ). below x v.nodes) is in
              omega arith)
        ]);
  }

  at-node : 4 * start.buckets ≤ e → e ≡ 4 * start.buckets + n
  at-node ge = omega arith

  -- a spare node's key stays out
  pub next-spare : 4 * start.buckets ≤ e → 0 < firsts n v.nodes → IsRefilled start ws v r (e + 1)
  next-spare ge s =
      let o = z.dealt.spare n s in
      let free : key_word start (4 * start.buckets + n) ≡ 0 = (z.sound.free n o.2 o.0).0 in
      same-keys (λ live. (let q : firsts n v.nodes ≡ 0 = live.1 n (at-node ge) in absurd (omega arith))) (λ low. absurd (omega arith)) (λ _. ap (key_word start) (at-node ge) ∙ free) (λ _ _. s) (λ _ _. o.2)

  -- a free entry
  pub next-free : get_or ws e 0 ≡ 0 → (4 * start.buckets ≤ e → firsts n v.nodes ≡ 0) → IsRefilled start ws v r (e + 1)
  next-free zero-there own =
      let none : key_word start e ≡ 0 = elim (cases_eq (key_word start e) 0) [ inl q ↦ q | inr ne ↦ (let is : get_or ws e 0 ≡ key_word start e = z.walks.kept e lt (omega arith) in absurd (omega arith)) ] in
      let filled : start.nodes ≤ drawn start ws → 4 * start.buckets ≤ e → ⊥ = λ all ge. (
      let p : 0 < get_or ws (4 * start.buckets + n) 0 = (z.dealt.walked n (omega arith) (omega arith) (own ge)).0 in
      let q : get_or ws e 0 ≡ get_or ws (4 * start.buckets + n) 0 = ap (λ (x : ℕ). get_or ws x 0) (at-node ge) in absurd (omega arith)) in
      same-keys (λ live. (let p : 0 < get_or ws e 0 = live.0 in absurd (omega arith))) (λ _. zero-there) (λ _. none) (λ all ge. absurd (filled all ge)) (λ ge all. absurd (filled all ge))

  -- ---- a key comes in

  module _ (k : BlockKey) (live : IsLive start ws v e) (is : key_of (get_or ws e 0) ≡ Some k) (u : Table) (g : Gains r u k (get_or ws e 0) (cell_in start e)) where
    h : ℕ
    h = home start.buckets (get_or ws e 0)

    home-is-h : bucket_of r.buckets k ≡ home start.buckets (get_or ws e 0)
    home-is-h = home-of start ws v z e k r f is

    puts-at : IsFreeAt r (home start.buckets (get_or ws e 0)) g.entry ⊎ (IsFilled r (home start.buckets (get_or ws e 0)) × (g.entry ≡ 4 * r.buckets + r.linked))
    puts-at = subst (λ (b : ℕ). IsFreeAt r b g.entry ⊎ (IsFilled r b × (g.entry ≡ 4 * r.buckets + r.linked))) home-is-h g.puts.at

    -- in a bucket the key comes to its old entry
    in-bucket : e < 4 * start.buckets → g.entry ≡ e
    in-bucket low =
        let hd : home start.buckets (get_or ws e 0) ≡ e / 4 = own-bucket start ws v z e low live.0 in
        let split : e ≡ 4 * home start.buckets (get_or ws e 0) + e % 4 = omega arith in
        let none : key_word r e ≡ 0 = f.free e low (omega arith) in
        let none2 : key_word r (4 * home start.buckets (get_or ws e 0) + e % 4) ≡ 0 = ap (key_word r) (sym split) ∙ none in
        elim puts-at [
          | inl a ↦ (
              let p : a.index < 4 = a.low in
              let at : g.entry ≡ 4 * home start.buckets (get_or ws e 0) + a.index = a.here in
              elim (cases_lt a.index (e % 4)) [
                | inl less ↦ (
                    let lh : home start.buckets (get_or ws e 0) < start.buckets = home_low start.buckets (get_or ws e 0) z.sound.some_buckets in
                    let here : 0 < get_or ws (4 * home start.buckets (get_or ws e 0) + e % 4) 0 = subst (λ (x : ℕ). 0 < get_or ws x 0) split live.0 in
                    let b : 0 < get_or ws (4 * home start.buckets (get_or ws e 0) + a.index) 0 = filled_down start ws (home start.buckets (get_or ws e 0)) (e % 4) z.walks lh (omega arith) here a.index (omega arith) in
                    let c : key_word r (4 * home start.buckets (get_or ws e 0) + a.index) ≡ get_or ws (4 * home start.buckets (get_or ws e 0) + a.index) 0 = f.same (4 * home start.buckets (get_or ws e 0) + a.index) (omega arith) (omega arith) in
                    let d : key_word r (4 * home start.buckets (get_or ws e 0) + a.index) ≡ 0 = ap (key_word r) (sym at) ∙ a.free in
                    absurd (omega arith))
                | inr more ↦ elim (cases_eq a.index (e % 4)) [
                  | inl q ↦ omega arith
                  | inr ne ↦ (let b : 0 < key_word r (4 * home start.buckets (get_or ws e 0) + e % 4) = a.before (e % 4) (omega arith) in absurd (omega arith))
                ]
              ])
          | inr a ↦ (let b : 0 < key_word r (4 * home start.buckets (get_or ws e 0) + e % 4) = a.0 (e % 4) (omega arith) in absurd (omega arith))
        ]

    -- the bucket of a node's key is filled in the table too
    filled : 4 * start.buckets ≤ e → (a : ℕ) → a < 4 → 0 < key_word r (4 * home start.buckets (get_or ws e 0) + a)
    filled ge a la =
        let lh : home start.buckets (get_or ws e 0) < start.buckets = home_low start.buckets (get_or ws e 0) z.sound.some_buckets in
        let l : IsLive start ws v (4 * start.buckets + n) = subst (IsLive start ws v) (at-node ge) live in
        let b : 0 < get_or ws (4 * home start.buckets (get_or ws (4 * start.buckets + n) 0) + a) 0 = bucket-filled start ws v z n (omega arith) l a la in
        let b2 : 0 < get_or ws (4 * home start.buckets (get_or ws e 0) + a) 0 = subst (λ (x : ℕ). 0 < get_or ws (4 * home start.buckets (get_or ws x 0) + a) 0) (sym (at-node ge)) b in
        let c : key_word r (4 * home start.buckets (get_or ws e 0) + a) ≡ get_or ws (4 * home start.buckets (get_or ws e 0) + a) 0 = f.same (4 * home start.buckets (get_or ws e 0) + a) (omega arith) (omega arith) in
        omega arith

    out-of-bucket : 4 * start.buckets ≤ e → 4 * start.buckets ≤ g.entry
    out-of-bucket ge =
        elim puts-at [
          | inl a ↦ (
              let b : 0 < key_word r (4 * home start.buckets (get_or ws e 0) + a.index) = filled ge a.index a.low in
              let d : key_word r (4 * home start.buckets (get_or ws e 0) + a.index) ≡ 0 = ap (key_word r) (sym a.here) ∙ a.free in
              absurd (omega arith))
          | inr a ↦ (let b : g.entry ≡ 4 * r.buckets + r.linked = a.1 in let c : r.buckets ≡ start.buckets = f.size.0 in omega arith)
        ]

    key-else : (d : ℕ) → d < 4 * start.buckets → d ≢ g.entry → key_word u d ≡ key_word r d
    key-else d ld ne = let c : r.buckets ≡ start.buckets = f.size.0 in let m : r.nodes ≡ start.nodes = f.size.1 in g.puts.others d (omega arith) ne

    got-it : get (contents u) k ≡ Some (cell_in start e)
    got-it = ap (λ m. get m k) g.map ∙ get-insert keys_total (contents r) k (cell_in start e) k ∙ cond-true (eq_by_cmp key_cmp k k) _ _ (key_itself k)

    got-else : (q : BlockKey) → eq_by_cmp key_cmp q k ≡ false → get (contents u) q ≡ get (contents r) q
    got-else q no-tie = ap (λ m. get m q) g.map ∙ get-insert keys_total (contents r) k (cell_in start e) q ∙ cond-false (eq_by_cmp key_cmp q k) _ _ no-tie

    one-longer : len (contents u) ≡ len (contents r) + 1
    one-longer =
        let new : contains_key (contents r) k ≡ false = ap is_some (is-new start ws v z r e k f lt live is) in
        ap len g.map ∙ len-insert keys_total (contents r) k (cell_in start e) ∙ ap (λ b. cond b (len (contents r)) (len (contents r) + 1)) new

    no-node : e < 4 * start.buckets → u.linked ≡ r.linked
    no-node low =
        let hd : home start.buckets (get_or ws e 0) ≡ e / 4 = own-bucket start ws v z e low live.0 in
        let last : key_word r (4 * home start.buckets (get_or ws e 0) + 3) ≡ 0 = f.free (4 * home start.buckets (get_or ws e 0) + 3) (omega arith) (omega arith) in
        let b : nodes_for r k ≡ 0 = ap (λ (x : ℕ). cond (bucket_is_full r x) 1 0) home-is-h ∙ not-above (key_word r (4 * home start.buckets (get_or ws e 0) + 3)) last in
        let c : u.linked ≡ r.linked + nodes_for r k = g.count in omega arith

    one-node : 4 * start.buckets ≤ e → u.linked ≡ r.linked + 1
    one-node ge =
        let some : 0 < key_word r (4 * home start.buckets (get_or ws e 0) + 3) = filled ge 3 (omega arith) in
        let b : nodes_for r k ≡ 1 = ap (λ (x : ℕ). cond (bucket_is_full r x) 1 0) home-is-h ∙ above-one (key_word r (4 * home start.buckets (get_or ws e 0) + 3)) some in
        let c : u.linked ≡ r.linked + nodes_for r k = g.count in omega arith

    pub next-key : IsRefilled start ws v u (e + 1)
    next-key = record {
      size = (g.size.0 ∙ f.size.0, g.size.1 ∙ f.size.1);
      same = λ d ld less. elim (cases_eq d e) [
        | inl q ↦ (let low : e < 4 * start.buckets = omega arith in ap (key_word u) (q ∙ sym (in-bucket low)) ∙ g.puts.here ∙ ap (λ (x : ℕ). get_or ws x 0) (sym q))
        | inr ne ↦ key-else d ld (λ q. elim (cases_lt e (4 * start.buckets)) [ inl low ↦ (let at = in-bucket low in absurd (omega arith)) | inr ge ↦ (let o = out-of-bucket ge in absurd (omega arith)) ]) ∙ f.same d ld (omega arith)
      ];
      free = λ d ld le. (let low : e < 4 * start.buckets = omega arith in let at = in-bucket low in key-else d ld (λ q. absurd (omega arith)) ∙ f.free d ld (omega arith));
      has = λ d q less ld d-live dq. elim (cases_eq d e) [
        | inl de ↦ (
            let s : Some q ≡ Some k = sym dq ∙ ap (λ (x : ℕ). key_of (get_or ws x 0)) de ∙ is in
            let qk : q ≡ k = cc in
            ap (get (contents u)) qk ∙ got-it ∙ ap (λ (x : ℕ). Some (cell_in start x)) (sym de))
        | inr ne ↦ elim (cases_key q k) [
          | inl qk ↦ absurd (ne (one-place start ws v z d e k ld lt d-live live (dq ∙ ap Some qk) is))
          | inr other ↦ got-else q other.1 ∙ f.has d q (omega arith) ld d-live dq
        ]
      ];
      only = λ q c got. elim (cases_key q k) [
        | inl qk ↦ (
            let s : Some c ≡ Some (cell_in start e) = sym got ∙ ap (get (contents u)) qk ∙ got-it in
            let same : c ≡ cell_in start e = cc in
            (e, omega arith, lt, live, is ∙ ap Some (sym qk), same))
        | inr other ↦ (let o = f.only q c (sym (got-else q other.1) ∙ got) in let l : o.0 < e = o.1 in (o.0, omega arith, o.2, o.3, o.4, o.5))
      ];
      linked = (let l : r.linked ≤ e - 4 * start.buckets = f.linked in elim (cases_lt e (4 * start.buckets)) [ inl low ↦ (let q = no-node low in omega arith) | inr ge ↦ (let q = one-node ge in omega arith) ]);
      many = λ all. (
          let old : e - 4 * start.buckets ≤ r.linked + below (e - 4 * start.buckets) v.nodes = f.many all in
          elim (cases_lt e (4 * start.buckets)) [
            | inl low ↦ omega arith
            | inr ge ↦ (
                let q = one-node ge in
                let m = below_more (e - 4 * start.buckets) v.nodes in
                let at : e + 1 - 4 * start.buckets ≡ e - 4 * start.buckets + 1 = omega arith in
                let b : below (e + 1 - 4 * start.buckets) v.nodes ≡ below (e - 4 * start.buckets + 1) v.nodes = ap (λ (x : ℕ). below x v.nodes) at in
                omega arith)
          ]);
      count = λ all. (
          let old : len (contents start) + (e - 4 * start.buckets - start.linked) ≤ len (contents r) + below (e - 4 * start.buckets) v.nodes + length (pairs_from (entries_in start - e) start e) = f.count all in
          let longer : len (contents u) ≡ len (contents r) + 1 = one-longer in
          let less : length (pairs_from (entries_in start - e) start e) ≤ length (pairs_from (entries_in start - (e + 1)) start (e + 1)) + 1 = left-more start e lt in
          elim (cases_lt e (4 * start.buckets)) [
            | inl low ↦ (
                let at : e + 1 - 4 * start.buckets ≡ 0 = omega arith in
                let at0 : e - 4 * start.buckets ≡ 0 = omega arith in
                let b : below (e + 1 - 4 * start.buckets) v.nodes ≡ below (e - 4 * start.buckets) v.nodes = ap (λ (x : ℕ). below x v.nodes) (at ∙ sym at0) in
                omega arith)
            | inr ge ↦ (
                let m = below_more (e - 4 * start.buckets) v.nodes in
                let at : e + 1 - 4 * start.buckets ≡ e - 4 * start.buckets + 1 = omega arith in
                let b : below (e + 1 - 4 * start.buckets) v.nodes ≡ below (e - 4 * start.buckets + 1) v.nodes = ap (λ (x : ℕ). below x v.nodes) at in
                elim (cases_lt (e - 4 * start.buckets) start.linked) [
                  | inl old-node ↦ omega arith
                  | inr new-node ↦ (
                      let none : key_word start (4 * start.buckets + (e - 4 * start.buckets)) ≡ 0 = (z.sound.free (e - 4 * start.buckets) new-node (omega arith)).0 in
                      let here : key_word start e ≡ 0 = ap (key_word start) (at-node ge) ∙ none in
                      let same : length (pairs_from (entries_in start - e) start e) ≡ length (pairs_from (entries_in start - (e + 1)) start (e + 1)) = left-same start e lt here in
                      omega arith)
                ])
          ]);
    }
