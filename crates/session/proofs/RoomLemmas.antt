-- The room that a frame needs: by the table of touched keys, and by the plan.
use Rattle.std.proofs.Common.{◌≡◌, ℕ, suc, get_or, ◌+◌, ◌-◌, ◌*◌, ◌<◌, ◌≤◌, Bool, true, false, ◌&&◌, ◌||◌, not, cond, List, [], ◌∷◌, ◌++◌, map, length, fold, refl, sym, ap, subst, ◌∙◌, arith}
use Rattle.std.proofs.Math.Bool.{and-false, or-true}
use Rattle.std.specs.Prelude.{is_some}
use Rattle.std.specs.Cmp.{eq_by_cmp_equiv}
use Rattle.std.specs.List.{IsDistinct, count_by, filter, list_any}
use Rattle.std.specs.FinMap.{FinMap, contains_key, contains_key-keys, from_entries, get-from_entries, keys, len}
use Rattle.std.specs.FinMap.Entries.{is_some-find}
use Rattle.std.specs.FinSet.{FinSet, contains}
use Rattle.std.proofs.lemmas.List.Filters.{length-filter_both}
use Rattle.std.proofs.lemmas.List.Folds.{list_any-append}
use Rattle.std.proofs.lemmas.List.Kept.{IsStrictlySortedBy-filter}
use Rattle.std.proofs.lemmas.List.Sums.{length-filter, sum_by-append}
use Rattle.std.proofs.lemmas.Map.Keys.{IsDistinct-from_sorted}
use Rattle.std.proofs.lemmas.Map.Made.{is_member-filter, length-le_from_is_member}
use Rattle.std.proofs.lemmas.Map.Views.{Contains-from_any}
use Rattle.voxel_block.specs.declared.key.BlockKey.{BlockKey}
use Rattle.voxel_block.specs.Chunks.{chunk_cmp, chunk_of}
use Rattle.voxel_block.specs.Keys.{key_cmp, same_key}
use Rattle.block_heap.specs.Cells.{Cells as Heap}
use Rattle.camera.specs.Visibility.{is_visible}
use Rattle.chunk_store.specs.Store.{opened_with}
use Rattle.chunk_store.proofs.Stores.{opens_each}
use Rattle.streamer.proofs.Moves.{same_blocks}
use Rattle.streamer.proofs.Sorting.{no_key}
use Rattle.session.specs.declared.room.Ready.{Ready}
use Rattle.voxel_block.proofs.DistinctKeys.{distinct_keys}
use Rattle.voxel_block.proofs.KeyLaws.{key_itself, keys_total, same_key_is}
use Rattle.band_walk.specs.Bands.{band}
use Rattle.band_walk.proofs.BandSet.{band_block_is_active, from_band}
use Rattle.spatial_hash.specs.Contents.{contents}
use Rattle.spatial_hash.specs.Table.{Table}
use Rattle.chunk_store.proofs.Bounds.{keys_rise}
use Rattle.chunk_store.proofs.Listing.{same_list}
use Rattle.streamer.specs.Places.{IsPlaced, Places, blocks_of}
use Rattle.streamer.specs.Plans.{IsPlan, entering, fresh_keys, leaving, need_of}
use Rattle.streamer.specs.declared.plan.Plan.{Plan}
use Rattle.streamer.proofs.Counts.{count_blocks, count_entries, distinct-both}
use Rattle.fusion_core.specs.Frames.{Frame, IsFrame, is_active, view}
use Rattle.fusion_core.specs.Maps.{BlockMap, need, touched}
use Rattle.fusion_core.proofs.FuseLemmas.{need_is}
use Rattle.fusion_core.proofs.TouchLemmas.{has_all}
use Rattle.allocator.specs.Rounds.{Cells, HasNewKeys, Touches}
use Rattle.session.specs.Rooms.{IsFramePlan, IsReady, StaysPut}
use Rattle.session.proofs.CountLemmas.{count_by-cons, count_keys}
use Rattle.session.proofs.StandingLemmas.{resident_known}

abbrev pub any : BlockKey → List BlockKey → Bool
any q ks = list_any (same_key q) ks

-- ---- tests of keys

module _ (test : BlockKey → Bool) where
  alike : (q a : BlockKey) → same_key q a ≡ true → test q ≡ test a
  alike q a e = ap test (same_key_is q a e)

  -- the keys of a list that pass
  pub any_filter : (ks : List BlockKey) (q : BlockKey) → any q (filter test ks) ≡ (any q ks && test q)
  any_filter ks q = is_member-filter (eq_by_cmp_equiv keys_total) test q (λ a e. alike q a e) ks

  pub filter_once : {X : Type 0} (m : FinMap key_cmp X) → IsDistinct same_key (filter test (keys m))
  filter_once m = IsDistinct-from_sorted key_cmp (filter test (keys m)) (IsStrictlySortedBy-filter key_cmp test (keys m) (keys_rise m))

  -- keys that differ are no more than those of a list that has them all
  pub fewer : (ks ls : List BlockKey) → IsDistinct same_key ks → ((q : BlockKey) → any q ks ≡ true → any q ls ≡ true) → length ks ≤ length ls
  fewer ks ls once all = length-le_from_is_member (eq_by_cmp_equiv keys_total) ks ls once all

pub both_of : (a b : Bool) → (a && b) ≡ true → (a ≡ true) × (b ≡ true)
both_of true true e = (refl, refl)
both_of true false e = absurd (cc)
both_of false b e = absurd (cc)

pub false_of : (a : Bool) → not a ≡ true → a ≡ false
false_of true e = absurd (cc)
false_of false e = refl

-- ---- the band

module _ (f : Frame) (frame : IsFrame f) where
  pub band_active : (q : BlockKey) → any q (band (view f)) ≡ true → is_active f q ≡ true
  band_active q banded = (band_block_is_active (view f) q frame.shown (from_band (view f) q (Contains-from_any same_key_is q (band (view f)) banded))).0

  -- ---- a table without a node for a new key

  module _ (m : BlockMap) (h : Cells) (n : ℕ) (s : HasNewKeys h (band (view f)) n) where
    new_few : length (keys s.keys) ≤ length (filter (is_active f) (keys (fold touched m (band (view f)))))
    new_few = fewer (λ _. true) (keys s.keys) (filter (is_active f) (keys (fold touched m (band (view f))))) (distinct_keys s.keys) (λ q e.
        let banded = (s.new q (contains_key-keys s.keys q ∙ e)).1 in
        any_filter (is_active f) (keys (fold touched m (band (view f)))) q
        ∙ (λ i. (sym (contains_key-keys (fold touched m (band (view f))) q) ∙ has_all m (band (view f)) q ∙ ap (λ x. contains_key m q || x) banded ∙ or-true (contains_key m q)) i && band_active q banded i))

    -- more blocks would be active than there are cells: the new keys alone are more
    pub spent_need : (cells nodes linked workers : ℕ) → len h ≤ cells → nodes ≡ 2 * cells + 65 → linked ≤ len h → workers ≤ 64 → n ≡ nodes - linked - workers → cells < need m f
    spent_need cells nodes linked workers few size held crew left =
        let all = count_keys s.keys in
        let on = new_few in
        let counted = length-filter (is_active f) (keys (fold touched m (band (view f)))) in
        let needed : count_by (is_active f) (keys (fold touched m (band (view f)))) ≡ need m f = need_is f m in
        let many = s.many in
        omega (arith, all, on, counted, needed, many, few, size, held, crew, left)

-- ---- lists of keys

all_count : (test : BlockKey → Bool) (ks : List BlockKey) → ((q : BlockKey) → any q ks ≡ true → test q ≡ true) → count_by test ks ≡ length ks
all_count test [] all = refl
all_count test (k ∷ ks) all =
    let rest = all_count test ks (λ q e. all q (ap (λ x. same_key q k || x) e ∙ or-true (same_key q k))) in
    let one = count_by-cons test k ks ∙ ap (λ b. cond b 1 0 + count_by test ks) (all k (ap (λ x. x || any k ks) (key_itself k))) in
    let l : length (k ∷ ks) ≡ length ks + 1 = (omega arith) in
    omega (arith, rest, one, l)

abbrev marks : List BlockKey → List (BlockKey × Unit {0})
marks ks = map (λ k. (k, tt)) ks

keys_of_marks : (ks : List BlockKey) → map (λ e. e.0) (marks ks) ≡ ks
keys_of_marks [] = refl
keys_of_marks (k ∷ ks) = ap (λ xs. k ∷ xs) (keys_of_marks ks)

has_marks : (ks : List BlockKey) (q : BlockKey) → contains_key (from_entries {R = key_cmp} (marks ks)) q ≡ any q ks
has_marks ks q = ap is_some (get-from_entries keys_total (marks ks) q) ∙ is_some-find key_cmp q (marks ks) ∙ ap (list_any (same_key q)) (keys_of_marks ks)

-- ---- a plan

swapped : (b c : Bool) → (b || c) ≡ ((c && not b) || b)
swapped true c = sym (or-true (c && false))
swapped false true = refl
swapped false false = refl

module _ (f : Frame) (frame : IsFrame f) (p : Places) (placed : IsPlaced p) (t : Table) (touches : Touches (contents p.table) (band (view f)) (contents t)) where
  abbrev fresh : List BlockKey
  fresh = fresh_keys p t

  by_known : (a b c : Bool) → (a ≡ true → b ≡ true) → ((a || c) && not b) ≡ (c && not b)
  by_known true b c k = (λ i. true && not (k refl i)) ∙ sym ((λ i. c && not (k refl i)) ∙ and-false c)
  by_known false b c k = refl

  pub fresh_is : (q : BlockKey) → any q fresh ≡ (any q (band (view f)) && not (contains_key (blocks_of p) q))
  fresh_is q =
      any_filter (λ b. not (contains_key (blocks_of p) b)) (keys (contents t)) q
      ∙ ap (λ x. x && not (contains_key (blocks_of p) q)) (sym (contains_key-keys (contents t) q) ∙ touches q)
      ∙ by_known (contains_key (contents p.table) q) (contains_key (blocks_of p) q) (any q (band (view f))) (resident_known p placed q)

  pub fresh_once : IsDistinct same_key fresh
  fresh_once = filter_once (λ b. not (contains_key (blocks_of p) b)) (contents t)

  fresh_active : (q : BlockKey) → any q fresh ≡ true → is_active f q ≡ true
  fresh_active q e = band_active f frame q (both_of (any q (band (view f))) (not (contains_key (blocks_of p) q)) (sym (fresh_is q) ∙ e)).0

  fresh_unknown : (q : BlockKey) → any q fresh ≡ true → contains_key (blocks_of p) q ≡ false
  fresh_unknown q e = false_of (contains_key (blocks_of p) q) (both_of (any q (band (view f))) (not (contains_key (blocks_of p) q)) (sym (fresh_is q) ∙ e)).1

  abbrev all : List BlockKey
  all = fresh ++ keys (blocks_of p)

  all_once : IsDistinct same_key all
  all_once = distinct-both fresh (keys (blocks_of p)) fresh_once (distinct_keys (blocks_of p)) (λ q e. sym (contains_key-keys (blocks_of p) q) ∙ fresh_unknown q e)

  same_keys : keys (fold touched (blocks_of p) (band (view f))) ≡ keys (from_entries {R = key_cmp} (marks all))
  same_keys = same_list _ _ (keys_rise (fold touched (blocks_of p) (band (view f)))) (keys_rise (from_entries (marks all))) (λ q.
      sym (contains_key-keys (fold touched (blocks_of p) (band (view f))) q) ∙ has_all (blocks_of p) (band (view f)) q
      ∙ swapped (contains_key (blocks_of p) q) (any q (band (view f))) ∙ (λ i. sym (fresh_is q) i || contains_key-keys (blocks_of p) q i)
      ∙ sym (list_any-append (same_key q) fresh (keys (blocks_of p))) ∙ sym (has_marks all q) ∙ contains_key-keys (from_entries {R = key_cmp} (marks all)) q)

  -- the plan's need is the frame's
  pub need_same : need_of f.camera f.pose p t ≡ need (blocks_of p) f
  need_same =
      let act = is_active f in
      let parts : count_by act all ≡ count_by act fresh + count_by act (keys (blocks_of p)) = sum_by-append (λ k. cond (act k) 1 0) fresh (keys (blocks_of p)) in
      let whole : count_by act (keys (fold touched (blocks_of p) (band (view f)))) ≡ count_by act all =
      ap (count_by act) same_keys ∙ count_entries act (marks all) (subst (IsDistinct same_key) (sym (keys_of_marks all)) all_once) ∙ ap (count_by act) (keys_of_marks all) in
      let needed : count_by act (keys (fold touched (blocks_of p) (band (view f)))) ≡ need (blocks_of p) f = need_is f (blocks_of p) in
      omega (arith, parts, whole, needed)

  -- where the need is met the heap has cells for those that enter and the fresh ones, once others have left
  pub plan_room : need_of f.camera f.pose p t ≤ length p.heap.cells
      → len (contents p.table) + length (entering f.camera f.pose p) + length fresh ≤ length p.heap.cells + length (leaving f.camera f.pose p)
  plan_room fits =
      let act = is_active f in
      let known = count_blocks act p placed in
      let new = all_count act fresh fresh_active in
      let enter : length (entering f.camera f.pose p) ≡ count_by act (keys p.store.contents) = length-filter act (keys p.store.contents) in
      let parts : length (filter act (keys (contents p.table))) + length (leaving f.camera f.pose p) ≡ length (keys (contents p.table)) = length-filter_both act (λ q. not (act q)) (λ _. refl) (keys (contents p.table)) in
      let on = length-filter act (keys (contents p.table)) in
      let held = count_keys (contents p.table) in
      omega (arith, known, new, enter, parts, on, held, fits)

  pub frame_plan : (plan : Plan) → IsPlan f.camera f.pose p t plan → plan.need ≤ length p.heap.cells → IsFramePlan f p plan
  frame_plan plan is fits = record {
    leave = is.leave;
    enter = is.enter;
    stay = is.stay;
    fresh = λ q. ap (list_any (same_key q)) is.fresh ∙ fresh_is q;
    once = subst (IsDistinct same_key) (sym is.fresh) fresh_once;
    room = (
        let room = plan_room (subst (λ n. n ≤ length p.heap.cells) is.need fits) in
        let a = ap length is.leave in
        let b = ap length is.enter in
        let c = ap length is.fresh in
        omega (arith, room, a, b, c));
  }

-- ---- a frame that is ready

-- a key of a list stands somewhere in it
index_of_key : (ks : List BlockKey) (q d : BlockKey) → any q ks ≡ true → (i : ℕ) × (i < length ks) × (get_or ks i d ≡ q)
index_of_key [] q d e = absurd (cc)
index_of_key (k ∷ ks) q d e = by (same_key q k) refl (index_of_key ks q d)
  where
    by : (b : Bool) → same_key q k ≡ b → (any q ks ≡ true → (i : ℕ) × (i < length ks) × (get_or ks i d ≡ q)) → (i : ℕ) × (i < length (k ∷ ks)) × (get_or (k ∷ ks) i d ≡ q)
    by true same later = (0, (omega arith), sym (same_key_is q k same))
    by false apart later =
        let rest = later (ap (λ b. b || any q ks) (sym apart) ∙ e) in
        (suc rest.0, (let l = rest.1 in omega (arith, l)), rest.2)

pub opens_all : (s : FinSet chunk_cmp) (ks : List BlockKey) (q : BlockKey) → any q ks ≡ true → contains (opened_with s ks) (chunk_of q) ≡ true
opens_all s ks q e =
    let at = index_of_key ks q no_key e in
    ap (λ k. contains (opened_with s ks) (chunk_of k)) (sym at.2) ∙ opens_each s ks at.0 no_key at.1

-- a plan stays one while chunks of the store are opened
plan_stays : (f : Frame) (p s : Places) (plan : Plan) → StaysPut p s → IsFramePlan f p plan → IsFramePlan f s plan
plan_stays f p s plan put is =
    let same = same_blocks p s put.table put.heap put.contents in
    let cells = ap (λ (h : Heap). length h.cells) put.heap in
    let keys_same = ap (λ (t : Table). len (contents t)) put.table in
    let room = is.room in
    record {
      leave = is.leave ∙ ap (λ (t : Table). filter (λ b. not (is_active f b)) (keys (contents t))) (sym put.table);
      enter = is.enter ∙ ap (λ m. filter (is_active f) (keys m)) (sym put.contents);
      stay = is.stay ∙ ap (λ (t : Table). filter (λ b. is_active f b && is_visible f.camera f.pose b) (keys (contents t))) (sym put.table);
      fresh = λ q. is.fresh q ∙ ap (λ (m : BlockMap). any q (band (view f)) && not (contains_key m q)) (sym same);
      once = is.once;
      room = omega (arith, room, cells, keys_same);
    }

pub ready : (f : Frame) (p s : Places) (r : Ready) → StaysPut p s → IsFramePlan f p r.plan → length r.packs.items ≡ length r.plan.leave.items → s.store.opened ≡ opened_with p.store.opened r.plan.leave.items → IsReady f s r
ready f p s r put is packs opened = record {
  plan = plan_stays f p s r.plan put is;
  packs = packs;
  opened = λ q e. ap (λ o. contains o (chunk_of q)) opened ∙ opens_all p.store.opened r.plan.leave.items q e;
}
