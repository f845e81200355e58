-- What follows for a session from what its type keeps.
use Rattle.std.proofs.Common.{◌≡◌, ℕ, true, false, cond, ◌&&◌, ◌||◌, List, length, refl, sym, ap, subst, ◌∙◌, inl, inr, ◌⊎◌}
use Rattle.std.proofs.Math.Bool.{and-false, and-true, or-true}
use Rattle.std.specs.Prelude.{Option, Some, None, is_some, IsTrue}
use Rattle.std.specs.FinMap.{get, contains_key, empty, get-empty}
use Rattle.voxel_block.specs.Keys.{key_cmp}
use Rattle.camera.specs.Cameras.{is_active as is_active_at}
use Rattle.scan_lang.specs.Config.{Config}
use Rattle.fusion_core.specs.Frames.{Frame, IsFrame, is_active}
use Rattle.fusion_core.specs.Maps.{BlockMap}
use Rattle.fusion_core.specs.Fold.{State, fused}
use Rattle.fusion_core.specs.Laws.{IsSound}
use Rattle.fusion_core.proofs.SoundLemmas.{start_is_sound, fused_stays_sound}
use Rattle.voxel_block.specs.declared.key.BlockKey.{BlockKey}
use Rattle.voxel_block.specs.declared.voxel.Voxel.{Voxel}
use Rattle.voxel_block.specs.Blocks.{new_block}
use Rattle.spatial_hash.specs.Contents.{contents}
use Rattle.voxel_block.specs.Packing.{packed, voxels_in}
use Rattle.streamer.specs.Owners.{block_in, owner_at, voxels_of}
use Rattle.streamer.specs.Places.{IsPlaced, Places, blocks_of, cell_of, heap_blocks, in_heap}
use Rattle.streamer.proofs.Blocks.{get-heap, get-resident, get-stored, has-blocks, in_store as unpacked}
use Rattle.streamer.proofs.Keyed.{some_of, the_same}
use Rattle.streamer.proofs.Moves.{same_blocks, same_places}
use Rattle.streamer.proofs.Ways.{stored_is_out}
use Rattle.block_heap.specs.Cells.{Cells as Heap}
use Rattle.spatial_hash.specs.Table.{Table}
use Rattle.fixed_geom.specs.Poses.{Pose}
use Rattle.raycaster.specs.Laws.{AgreeOnActive}
use Rattle.session.specs.Rooms.{StaysPut}
use Rattle.session.specs.Answers.{SessionView, state_of}
use Rattle.session.specs.Fold.{is_active_last, place_in, settings_of}
use Rattle.scan_lang.specs.declared.reply.Place.TheVariants as places
use Rattle.session.specs.Standing.{HasSizeOf, IsResident, IsSettled, IsStored, Stands}

module _ (p : Places) (placed : IsPlaced p) where
  -- an owner is not in the store
  unstored : (b : BlockKey) (n : ℕ) (v : List Voxel) → owner_at p.heap n ≡ Some (b, v) → get p.store.contents b ≡ None
  unstored b n v e = placed.apart b (ap is_some (placed.owned b n v e))

  pub resident_known : (b : BlockKey) → contains_key (contents p.table) b ≡ true → contains_key (blocks_of p) b ≡ true
  resident_known b e = has-blocks p b ∙ ap (λ t. t || contains_key p.store.contents b) e

  pub store_known : (b : BlockKey) → contains_key p.store.contents b ≡ true → contains_key (blocks_of p) b ≡ true
  store_known b e = has-blocks p b ∙ ap (λ t. contains_key (contents p.table) b || t) e ∙ or-true (contains_key (contents p.table) b)

  one_place : (b : BlockKey) → IsTrue (contains_key (blocks_of p) b) → IsStored p b ⊎ IsResident p b
  one_place b known = by (cell_of p.table b) refl
    where
      by : (c : Option ℕ) → cell_of p.table b ≡ c → IsStored p b ⊎ IsResident p b
      by None e =
          let form = some_of (get p.store.contents b) (ap (λ (c : Option ℕ). is_some c || contains_key p.store.contents b) (sym e) ∙ sym (has-blocks p b) ∙ known) in
          inl (record {
            form = form;
            no_cell = λ n w owned. (let z : ◌≡◌ {A = Option ℕ} None (Some n) = sym e ∙ placed.owned b n w owned in absurd (cc));
          })
      by (Some n) e = inr (record {
        unstored = placed.apart b (ap is_some e);
        cell = (n, block_in p.heap n, placed.found b n e);
        only = λ m n v w first second. the_same m n (sym (placed.owned b m v first) ∙ placed.owned b n w second);
      })

  in_cell : (b : BlockKey) (n : ℕ) (v : List Voxel) → owner_at p.heap n ≡ Some (b, v) → get (blocks_of p) b ≡ Some v
  in_cell b n v e = get-resident p b n (placed.owned b n v e) ∙ ap (λ o. Some (voxels_of o new_block)) e

  in_store : (b : BlockKey) (bytes : List ℕ) → get p.store.contents b ≡ Some bytes → (v : List Voxel) × (get (blocks_of p) b ≡ Some v) × (bytes ≡ packed b v)
  in_store b bytes e = (voxels_in bytes, get-stored p b (stored_is_out p b placed (ap is_some e)) ∙ ap unpacked e, (placed.packed b bytes e).form)

pub stands : (h : SessionView) → IsSettled h → Stands h
stands h s =
    let p = h.places in record {
      one_place = one_place p s.placed;
      store = store_known p s.placed;
      owners = λ b n v e. resident_known p s.placed b (ap is_some (s.placed.owned b n v e));
      in_store = in_store p s.placed;
      in_cell = in_cell p s.placed;
      active = s.active;
      found = λ b n e. (block_in p.heap n, s.placed.found b n e);
      named = s.placed.owned;
      cells = s.cells;
      size = s.size;
      empty = s.sound.empty;
      frames = s.sound.frames;
      weights = s.sound.weights;
      reach = s.sound.reach;
    }

-- ---- what the type keeps

-- at the start there is no key
pub settled_start : (c : Config) (p : Places) → IsPlaced p → blocks_of p ≡ empty → length p.heap.cells ≡ c.heap_blocks → HasSizeOf c p.table → IsSettled (record { config = c; places = p; frames = 0; last = None })
settled_start c p placed none cells size = record {
  placed = placed;
  sound = subst (λ (m : BlockMap). IsSound (settings_of c) (record { blocks = m; frames = 0; last = None })) (sym none) (start_is_sound (settings_of c));
  cells = cells;
  size = size;
  active = λ b. elim (contains_key (contents p.table) b) as (λ t. contains_key (contents p.table) b ≡ t → t ≡ (contains_key (blocks_of p) b && false)) [
    | true ↦ λ e. absurd (let z : false ≡ true = ap is_some (sym (get-empty key_cmp b)) ∙ ap (λ (m : BlockMap). contains_key m b) (sym none) ∙ resident_known p placed b e in cc)
    | false ↦ λ e. sym (and-false (contains_key (blocks_of p) b))
  ] refl;
}

-- after a frame the active blocks lie in the heap
pub settled_after : (c : Config) (s : State) (p : Places) (n : ℕ) (f : Frame) → IsSound (settings_of c) s → IsFrame f → f.camera ≡ c.camera → f.max_weight ≡ c.max_weight
    → record { blocks = blocks_of p; frames = n; last = Some f.pose } ≡ fused s f → IsPlaced p → length p.heap.cells ≡ c.heap_blocks → HasSizeOf c p.table
    → ((b : BlockKey) → contains_key (contents p.table) b ≡ (contains_key (blocks_of p) b && is_active f b)) → IsSettled (record { config = c; places = p; frames = n; last = Some f.pose })
settled_after c s p n f sound frame camera weight now placed cells size active = record {
  placed = placed;
  sound = subst (IsSound (settings_of c)) (sym now) (fused_stays_sound (settings_of c) s f frame camera weight sound);
  cells = cells;
  size = size;
  active = λ b. active b ∙ ap (λ k. contains_key (blocks_of p) b && is_active_at k f.pose b) camera;
}

-- where no block moved the type's facts stay
pub settled_put : (c : Config) (p r : Places) (n : ℕ) (last : Option Pose) → StaysPut p r → IsSettled (record { config = c; places = p; frames = n; last = last }) → IsSettled (record { config = c; places = r; frames = n; last = last })
settled_put c p r n last put s = record {
  placed = same_places p r s.placed put.table put.heap put.contents;
  sound = subst (λ (m : BlockMap). IsSound (settings_of c) (record { blocks = m; frames = n; last = last })) (sym (same_blocks p r put.table put.heap put.contents)) s.sound;
  cells = ap (λ (h : Heap). length h.cells) put.heap ∙ s.cells;
  size = subst (HasSizeOf c) (sym put.table) s.size;
  active = λ b. ap (λ (t : Table). contains_key (contents t) b) put.table ∙ s.active b ∙ ap (λ (m : BlockMap). contains_key m b && is_active_last c.camera last b) (sym (same_blocks p r put.table put.heap put.contents));
}

-- ---- pictures

-- with a last frame the active blocks are those of the heap
pub heap_agrees : (h : SessionView) (pose : Pose) → IsSettled h → h.last ≡ Some pose → AgreeOnActive h.config.camera pose (heap_blocks h.places) (blocks_of h.places)
heap_agrees h pose s last = record { same = λ b on. get-heap h.places b ∙ by b on (cell_of h.places.table b) refl }
  where
    resident : (b : BlockKey) → IsTrue (is_active_at h.config.camera pose b) → contains_key (contents h.places.table) b ≡ contains_key (blocks_of h.places) b
    resident b on =
        s.active b ∙ ap (λ (l : Option Pose). contains_key (blocks_of h.places) b && is_active_last h.config.camera l b) last ∙ ap (λ t. contains_key (blocks_of h.places) b && t) on
        ∙ and-true (contains_key (blocks_of h.places) b)

    gone : (o : Option (List Voxel)) → is_some o ≡ false → None ≡ o
    gone None e = refl
    gone (Some x) e = absurd (cc)

    by : (b : BlockKey) → IsTrue (is_active_at h.config.camera pose b) → (c : Option ℕ) → cell_of h.places.table b ≡ c → in_heap h.places.heap (cell_of h.places.table b) ≡ get (blocks_of h.places) b
    by b on None e = ap (in_heap h.places.heap) e ∙ gone (get (blocks_of h.places) b) (sym (resident b on) ∙ ap is_some e)
    by b on (Some n) e = ap (in_heap h.places.heap) e ∙ sym (get-resident h.places b n e)

-- ---- places

module _ (h : SessionView) (s : IsSettled h) (b : BlockKey) (out : contains_key (contents h.places.table) b ≡ false) where
  pub placed_store : contains_key h.places.store.contents b ≡ true → places.Store ≡ place_in h.config (state_of h) b
  placed_store stored =
      let known = store_known h.places s.placed b stored in
      let idle : is_active_last h.config.camera h.last b ≡ false = ap (λ k. k && is_active_last h.config.camera h.last b) (sym known) ∙ sym (s.active b) ∙ out in
      sym ((λ i. cond (known i) (cond (idle i) places.Heap places.Store) places.Nowhere))

  pub placed_nowhere : contains_key h.places.store.contents b ≡ false → places.Nowhere ≡ place_in h.config (state_of h) b
  placed_nowhere unstored =
      let unknown : contains_key (blocks_of h.places) b ≡ false = has-blocks h.places b ∙ (λ i. out i || unstored i) in
      sym (ap (λ k. cond k (cond (is_active_last h.config.camera h.last b) places.Heap places.Store) places.Nowhere) unknown)
