-- A frame that is fused by its plan: moves, and then updates.
use Rattle.std.proofs.Common.{◌≡◌, ◌+◌, ◌≤◌, Bool, true, false, cond, ◌&&◌, ◌||◌, not, List, length, fold, refl, sym, ap, subst, ◌∙◌, arith}
use Rattle.std.proofs.Math.Bool.{and-false, or-true}
use Rattle.std.specs.Prelude.{Option, Some, None, is_some, unwrap_or}
use Rattle.std.specs.Option.{option_map}
use Rattle.std.specs.List.{IsDistinct}
use Rattle.std.specs.FinMap.{contains_key, contains_key-keys, get, keys, same_map}
use Rattle.voxel_block.specs.declared.key.BlockKey.{BlockKey}
use Rattle.voxel_block.specs.declared.voxel.Voxel.{Voxel}
use Rattle.voxel_block.specs.Blocks.{new_block}
use Rattle.voxel_block.specs.Keys.{same_key}
use Rattle.voxel_block.proofs.KeyLaws.{exact_keys, keys_total}
use Rattle.camera.specs.Visibility.{is_visible}
use Rattle.fuse_kernel.specs.Updates.{updated}
use Rattle.fuse_kernel.proofs.LawLemmas.{inactive_stays, invisible_stays}
use Rattle.band_walk.specs.Bands.{band}
use Rattle.spatial_hash.specs.Contents.{contents}
use Rattle.streamer.specs.Places.{IsPlaced, Places, blocks_of}
use Rattle.streamer.proofs.Blocks.{has-blocks}
use Rattle.fusion_core.specs.Frames.{Frame, IsFrame, is_active, view}
use Rattle.fusion_core.specs.Maps.{BlockMap, HasWholeBlocks, all_updated, fuse, touched}
use Rattle.fusion_core.proofs.EachLemmas.{whole_all}
use Rattle.fusion_core.proofs.FuseLemmas.{fuse_is}
use Rattle.fusion_core.proofs.TouchLemmas.{at_all, has_all}
use Rattle.fusion_core.proofs.UpdatedLemmas.{get_updated, has_updated}
use Rattle.session.specs.declared.room.Ready.{Ready}
use Rattle.session.specs.Rooms.{IsReady, Moves}
use Rattle.session.specs.Updating.{UpdatesEach}
use Rattle.session.proofs.MovingLemmas.{any}
use Rattle.session.proofs.RoomLemmas.{any_filter, band_active, both_of, false_of, filter_once}
use Rattle.session.proofs.StandingLemmas.{resident_known, store_known}

-- ---- truths

and_true : (a b : Bool) → a ≡ true → b ≡ true → (a && b) ≡ true
and_true a b p q = λ i. (ap (λ x. x && b) p ∙ q) i

kept_in : (t l : Bool) → t ≡ true → l ≡ false → (t && not l) ≡ true
kept_in t l p q = (λ i. p i && not (q i))

-- which keys are in the heap at the end: t and s of the heap and the store before, a active, d of the band
at_end : (t s a d : Bool) → (d ≡ true → a ≡ true) → (((t && not (t && not a)) || (s && a)) || (d && not (t || s))) ≡ (((t || s) || d) && a)
at_end true true true true h = refl
at_end true true true false h = refl
at_end true true false true h = absurd (let z : false ≡ true = h refl in cc)
at_end true true false false h = refl
at_end true false true true h = refl
at_end true false true false h = refl
at_end true false false true h = absurd (let z : false ≡ true = h refl in cc)
at_end true false false false h = refl
at_end false true true true h = refl
at_end false true true false h = refl
at_end false true false true h = absurd (let z : false ≡ true = h refl in cc)
at_end false true false false h = refl
at_end false false true true h = refl
at_end false false true false h = refl
at_end false false false true h = absurd (let z : false ≡ true = h refl in cc)
at_end false false false false h = refl

-- each is updated once, or stays
once_each : {X : Type 0} (u : X → X) (g : X) (s e n : Bool) → (s ≡ true → e ≡ false) → (s ≡ true → n ≡ false) → (e ≡ true → n ≡ false) → (s ≡ false → e ≡ false → n ≡ false → u g ≡ g)
    → cond n (u (cond e (u (cond s (u g) g)) (cond s (u g) g))) (cond e (u (cond s (u g) g)) (cond s (u g) g)) ≡ u g
once_each u g true true n a b c h = absurd (let z : true ≡ false = a refl in cc)
once_each u g true false true a b c h = absurd (let z : true ≡ false = b refl in cc)
once_each u g true false false a b c h = refl
once_each u g false true true a b c h = absurd (let z : true ≡ false = c refl in cc)
once_each u g false true false a b c h = refl
once_each u g false false true a b c h = refl
once_each u g false false false a b c h = sym (h refl refl refl)

module _ (f : Frame) (frame : IsFrame f) (p : Places) (placed : IsPlaced p) (ready : Ready) (is : IsReady f p ready) where
  -- ---- the lists

  pub leaves : (q : BlockKey) → any q ready.plan.leave.items ≡ (contains_key (contents p.table) q && not (is_active f q))
  leaves q = ap (any q) is.plan.leave ∙ any_filter (λ b. not (is_active f b)) (keys (contents p.table)) q ∙ ap (λ b. b && not (is_active f q)) (sym (contains_key-keys (contents p.table) q))

  pub enters : (q : BlockKey) → any q ready.plan.enter.items ≡ (contains_key p.store.contents q && is_active f q)
  enters q = ap (any q) is.plan.enter ∙ any_filter (is_active f) (keys p.store.contents) q ∙ ap (λ b. b && is_active f q) (sym (contains_key-keys p.store.contents q))

  pub stays : (q : BlockKey) → any q ready.plan.stay.items ≡ (contains_key (contents p.table) q && (is_active f q && is_visible f.camera f.pose q))
  stays q = ap (any q) is.plan.stay ∙ any_filter (λ b. is_active f b && is_visible f.camera f.pose b) (keys (contents p.table)) q
      ∙ ap (λ b. b && (is_active f q && is_visible f.camera f.pose q)) (sym (contains_key-keys (contents p.table) q))

  pub leave_once : IsDistinct same_key ready.plan.leave.items
  leave_once = subst (IsDistinct same_key) (sym is.plan.leave) (filter_once (λ b. not (is_active f b)) (contents p.table))

  pub enter_once : IsDistinct same_key ready.plan.enter.items
  enter_once = subst (IsDistinct same_key) (sym is.plan.enter) (filter_once (is_active f) p.store.contents)

  pub stay_once : IsDistinct same_key ready.plan.stay.items
  stay_once = subst (IsDistinct same_key) (sym is.plan.stay) (filter_once (λ b. is_active f b && is_visible f.camera f.pose b) (contents p.table))

  -- a stored key is not in the heap
  apart : (q : BlockKey) → contains_key p.store.contents q ≡ true → contains_key (contents p.table) q ≡ false
  apart q stored = by (contains_key (contents p.table) q) refl
    where
      by : (b : Bool) → contains_key (contents p.table) q ≡ b → b ≡ false
      by true e = absurd (let z : false ≡ true = ap is_some (sym (placed.apart q e)) ∙ stored in cc)
      by false e = refl

  -- ---- blocks leave

  pub leave_resident : (q : BlockKey) → any q ready.plan.leave.items ≡ true → contains_key (contents p.table) q ≡ true
  leave_resident q e = (both_of (contains_key (contents p.table) q) (not (is_active f q)) (sym (leaves q) ∙ e)).0

  module _ (r : Places) (moved : Moves p r) (left : (q : BlockKey) → contains_key (contents r.table) q ≡ (contains_key (contents p.table) q && not (any q ready.plan.leave.items)))
      (free : length r.heap.free ≡ length p.heap.free + length ready.plan.leave.items) where
    -- ---- blocks enter

    pub enter_known : (q : BlockKey) → any q ready.plan.enter.items ≡ true → contains_key (blocks_of r) q ≡ true
    enter_known q e = ap (λ (m : BlockMap). contains_key m q) moved.blocks ∙ store_known p placed q (both_of (contains_key p.store.contents q) (is_active f q) (sym (enters q) ∙ e)).0

    pub enter_out : (q : BlockKey) → any q ready.plan.enter.items ≡ true → contains_key (contents r.table) q ≡ false
    enter_out q e = left q ∙ ap (λ b. b && not (any q ready.plan.leave.items)) (apart q (both_of (contains_key p.store.contents q) (is_active f q) (sym (enters q) ∙ e)).0)

    pub enter_free : length ready.plan.enter.items ≤ length r.heap.free
    enter_free = (let count = placed.count in let room = is.plan.room in omega (arith, count, room, free))

    module _ (s : Places) (more : Moves r s) (come : (q : BlockKey) → contains_key (contents s.table) q ≡ (contains_key (contents r.table) q || any q ready.plan.enter.items))
        (fewer : length s.heap.free + length ready.plan.enter.items ≡ length r.heap.free) where
      -- ---- new blocks are made

      same : blocks_of s ≡ blocks_of p
      same = more.blocks ∙ moved.blocks

      pub fresh_unknown : (q : BlockKey) → any q ready.plan.fresh.items ≡ true → contains_key (blocks_of s) q ≡ false
      fresh_unknown q e = ap (λ (m : BlockMap). contains_key m q) same ∙ false_of (contains_key (blocks_of p) q) (both_of (any q (band (view f))) (not (contains_key (blocks_of p) q)) (sym (is.plan.fresh q) ∙ e)).1

      pub fresh_free : length ready.plan.fresh.items ≤ length s.heap.free
      fresh_free = (let count = placed.count in let room = is.plan.room in omega (arith, count, room, free, fewer))

      module _ (t : Places) (made : blocks_of t ≡ fold touched (blocks_of s) ready.plan.fresh.items)
          (has : (q : BlockKey) → contains_key (contents t.table) q ≡ (contains_key (contents s.table) q || any q ready.plan.fresh.items)) where
        -- the map has the blocks of the band
        fresh_band : (q : BlockKey) → (contains_key (blocks_of p) q || any q ready.plan.fresh.items) ≡ (contains_key (blocks_of p) q || any q (band (view f)))
        fresh_band q = ap (λ b. contains_key (blocks_of p) q || b) (is.plan.fresh q) ∙ by (contains_key (blocks_of p) q) (any q (band (view f)))
          where
            by : (b d : Bool) → (b || (d && not b)) ≡ (b || d)
            by true d = refl
            by false true = refl
            by false false = refl

        by_default : (o : Option (List Voxel)) (b : Bool) → is_some o ≡ b → o ≡ cond b (Some (unwrap_or o new_block)) None
        by_default None b e = ap (λ x. cond x (Some new_block) None) e
        by_default (Some v) b e = ap (λ x. cond x (Some v) None) e

        pub banded : blocks_of t ≡ fold touched (blocks_of p) (band (view f))
        banded = made ∙ ap (λ (m : BlockMap). fold touched m ready.plan.fresh.items) same ∙ same_map keys_total exact_keys _ _ (λ q.
            let m = blocks_of p in
            let a = fold touched m ready.plan.fresh.items in
            let b = fold touched m (band (view f)) in
            by_default (get a q) _ (has_all m ready.plan.fresh.items q ∙ fresh_band q ∙ sym (has_all m (band (view f)) q))
            ∙ ap (λ v. cond (contains_key b q) (Some v) None) (at_all m ready.plan.fresh.items q ∙ sym (at_all m (band (view f)) q))
            ∙ sym (by_default (get b q) _ refl))

        pub heap_has : (q : BlockKey) → contains_key (contents t.table) q ≡ (contains_key (blocks_of t) q && is_active f q)
        heap_has q =
            has q ∙ (λ i. (come q i || any q ready.plan.fresh.items))
            ∙ (λ i. ((left q i || enters q i) || is.plan.fresh q i))
            ∙ (λ i. ((contains_key (contents p.table) q && not (leaves q i)) || (contains_key p.store.contents q && is_active f q)) || (any q (band (view f)) && not (has-blocks p q i)))
            ∙ at_end (contains_key (contents p.table) q) (contains_key p.store.contents q) (is_active f q) (any q (band (view f))) (band_active f frame q)
            ∙ ap (λ b. (b || any q (band (view f))) && is_active f q) (sym (has-blocks p q))
            ∙ ap (λ b. b && is_active f q) (sym (ap (λ (m : BlockMap). contains_key m q) banded ∙ has_all (blocks_of p) (band (view f)) q))

        -- the fused map has the same keys
        pub fused_has : (c : Places) → blocks_of c ≡ fuse (blocks_of p) f → (q : BlockKey) → contains_key (blocks_of c) q ≡ contains_key (blocks_of t) q
        fused_has c e q =
            ap (λ (m : BlockMap). contains_key m q) (e ∙ sym (fuse_is f (blocks_of p))) ∙ has_updated f (fold touched (blocks_of p) (band (view f))) q
            ∙ ap (λ (m : BlockMap). contains_key m q) (sym banded)

        -- ---- updates

        pub stay_resident : (q : BlockKey) → any q ready.plan.stay.items ≡ true → contains_key (contents t.table) q ≡ true
        stay_resident q e =
            let b = both_of (contains_key (contents p.table) q) (is_active f q && is_visible f.camera f.pose q) (sym (stays q) ∙ e) in
            let a = (both_of (is_active f q) (is_visible f.camera f.pose q) b.1).0 in
            heap_has q ∙ and_true _ _ (ap (λ (m : BlockMap). contains_key m q) banded ∙ has_all (blocks_of p) (band (view f)) q ∙ ap (λ x. x || any q (band (view f))) (resident_known p placed q b.0)) a

        pub enter_resident : (q : BlockKey) → any q ready.plan.enter.items ≡ true → contains_key (contents t.table) q ≡ true
        enter_resident q e =
            let b = both_of (contains_key p.store.contents q) (is_active f q) (sym (enters q) ∙ e) in
            heap_has q ∙ and_true _ _ (ap (λ (m : BlockMap). contains_key m q) banded ∙ has_all (blocks_of p) (band (view f)) q ∙ ap (λ x. x || any q (band (view f))) (store_known p placed q b.0)) b.1

        pub fresh_resident : (q : BlockKey) → any q ready.plan.fresh.items ≡ true → contains_key (contents t.table) q ≡ true
        fresh_resident q e = has q ∙ ap (λ b. contains_key (contents s.table) q || b) e ∙ or-true (contains_key (contents s.table) q)

        module _ (whole : HasWholeBlocks (blocks_of p)) (a b c : Places)
            (first : UpdatesEach f ready.plan.stay.items (blocks_of t) (blocks_of a)) (second : UpdatesEach f ready.plan.enter.items (blocks_of a) (blocks_of b)) (third : UpdatesEach f ready.plan.fresh.items (blocks_of b) (blocks_of c)) where
          abbrev one : (q : BlockKey) → Option (List Voxel) → Option (List Voxel)
          one q o = option_map (updated (view f) f.max_weight q) o

          -- a block of no list stays as it is
          unlisted : (q : BlockKey) → any q ready.plan.stay.items ≡ false → any q ready.plan.enter.items ≡ false → any q ready.plan.fresh.items ≡ false
              → (o : Option (List Voxel)) → get (blocks_of t) q ≡ o → one q o ≡ o
          unlisted q x y z None e = refl
          unlisted q x y z (Some v) e = ap Some (by (is_active f q) refl)
            where
              long : length v ≡ 512
              long = subst HasWholeBlocks (sym banded) (whole_all (blocks_of p) (band (view f)) whole) q v e

              -- it is in the heap where it is active, and was there before
              was_there : is_active f q ≡ true → contains_key (contents p.table) q ≡ true
              was_there on =
                  let there : contains_key (contents t.table) q ≡ true = heap_has q ∙ and_true _ _ (ap is_some e) on in
                  by_parts (contains_key (contents p.table) q) (any q ready.plan.leave.items) (any q ready.plan.enter.items) (any q ready.plan.fresh.items)
                  (sym (has q ∙ ap (λ k. k || any q ready.plan.fresh.items) (come q ∙ ap (λ k. k || any q ready.plan.enter.items) (left q))) ∙ there) y z
                where
                  by_parts : (k l m n : Bool) → (((k && not l) || m) || n) ≡ true → m ≡ false → n ≡ false → k ≡ true
                  by_parts true l m n h i j = refl
                  by_parts false l m n h i j = absurd (let w : false ≡ true = sym ((λ u. i u || n) ∙ j) ∙ h in cc)

              by : (k : Bool) → is_active f q ≡ k → updated (view f) f.max_weight q v ≡ v
              by false off = inactive_stays (view f) f.max_weight q v frame.shown long off
              by true on = invisible_stays (view f) f.max_weight q v frame.shown long (unseen (is_visible f.camera f.pose q) refl)
                where
                  unseen : (k : Bool) → is_visible f.camera f.pose q ≡ k → k ≡ false
                  unseen false e = refl
                  unseen true e = absurd (let w : true ≡ false = sym (stays q ∙ and_true _ _ (was_there on) (and_true _ _ on e)) ∙ x in cc)

          pub all_fused : blocks_of c ≡ fuse (blocks_of p) f
          all_fused = same_map keys_total exact_keys _ _ (λ q.
              third q ∙ (λ i. cond (any q ready.plan.fresh.items) (one q (second q i)) (second q i))
              ∙ (λ i. cond (any q ready.plan.fresh.items) (one q (cond (any q ready.plan.enter.items) (one q (first q i)) (first q i))) (cond (any q ready.plan.enter.items) (one q (first q i)) (first q i)))
              ∙ once_each (one q) (get (blocks_of t) q) (any q ready.plan.stay.items) (any q ready.plan.enter.items) (any q ready.plan.fresh.items) (not_entered q) (not_fresh q) (entered_known q) (λ x y z. unlisted q x y z (get (blocks_of t) q) refl)
              ∙ sym (get_updated f (blocks_of t) q))
              ∙ ap (all_updated f) banded ∙ fuse_is f (blocks_of p)
            where
              not_entered : (q : BlockKey) → any q ready.plan.stay.items ≡ true → any q ready.plan.enter.items ≡ false
              not_entered q e = by (any q ready.plan.enter.items) refl
                where
                  by : (k : Bool) → any q ready.plan.enter.items ≡ k → k ≡ false
                  by false x = refl
                  by true x = absurd (let w : true ≡ false = sym (both_of (contains_key (contents p.table) q) (is_active f q && is_visible f.camera f.pose q) (sym (stays q) ∙ e)).0 ∙ apart q (both_of (contains_key p.store.contents q) (is_active f q) (sym (enters q) ∙ x)).0 in cc)

              known_not_fresh : (q : BlockKey) → contains_key (blocks_of p) q ≡ true → any q ready.plan.fresh.items ≡ false
              known_not_fresh q known = is.plan.fresh q ∙ ap (λ k. any q (band (view f)) && not k) known ∙ and-false (any q (band (view f)))

              not_fresh : (q : BlockKey) → any q ready.plan.stay.items ≡ true → any q ready.plan.fresh.items ≡ false
              not_fresh q e = known_not_fresh q (resident_known p placed q (both_of (contains_key (contents p.table) q) (is_active f q && is_visible f.camera f.pose q) (sym (stays q) ∙ e)).0)

              entered_known : (q : BlockKey) → any q ready.plan.enter.items ≡ true → any q ready.plan.fresh.items ≡ false
              entered_known q e = known_not_fresh q (store_known p placed q (both_of (contains_key p.store.contents q) (is_active f q) (sym (enters q) ∙ e)).0)
