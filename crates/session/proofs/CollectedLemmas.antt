-- What a collection leaves of a session.
use Rattle.std.proofs.Common.{◌≡◌, ℕ, ◌+◌, Bool, true, false, cond, ◌&&◌, not, List, refl, sym, ap, subst, ◌∙◌, arith}
use Rattle.std.proofs.Math.Bool.{and-false, and-true}
use Rattle.std.specs.Prelude.{Option, Some, None, is_some}
use Rattle.std.specs.FinMap.{contains_key, empty, get, get-empty, get-retain_keys, len, same_map}
use Rattle.voxel_block.specs.declared.key.BlockKey.{BlockKey}
use Rattle.voxel_block.specs.declared.voxel.Voxel.{Voxel}
use Rattle.voxel_block.specs.Keys.{key_cmp}
use Rattle.voxel_block.proofs.KeyLaws.{exact_keys, keys_total}
use Rattle.collector.specs.Empty.{is_empty_block}
use Rattle.streamer.specs.Owners.{block_in}
use Rattle.streamer.specs.Places.{Places, blocks_of, cell_of}
use Rattle.streamer.proofs.Blocks.{get-resident}
use Rattle.streamer.proofs.Keyed.{some_of}
use Rattle.fusion_core.specs.Maps.{BlockMap}
use Rattle.fusion_core.specs.Laws.{IsSound}
use Rattle.session.specs.Answers.{SessionView, state_of}
use Rattle.session.specs.Collecting.{Collects, is_empty_in}
use Rattle.session.specs.Fold.{collected, collected_count, is_active_last, is_collected, is_empty_at, settings_of}
use Rattle.session.specs.Standing.{IsSettled}

none_either : {X : Type 0} (t : Bool) → ◌≡◌ {A = Option X} (cond t None None) None
none_either true = refl
none_either false = refl

kept_by : {X : Type 0} (t : Bool) (o : Option X) → cond t None o ≡ cond (not t) o None
kept_by true o = refl
kept_by false o = refl

still_some : {X : Type 0} (t : Bool) (o : Option X) → is_some (cond t None o) ≡ (is_some o && not t)
still_some true o = sym (and-false (is_some o))
still_some false o = sym (and-true (is_some o))

was_some : {X : Type 0} (t : Bool) (o : Option X) (x : X) → cond t None o ≡ Some x → o ≡ Some x
was_some true o x is = absurd (cc)
was_some false o x is = is

turned : (a b t : Bool) → ((a && b) && not t) ≡ ((a && not t) && b)
turned true b true = and-false b
turned true b false = and-true b
turned false b t = refl

module _ (h : SessionView) (s : IsSettled h) where
  -- a key is active for the last frame
  abbrev active : BlockKey → Bool
  active b = is_active_last h.config.camera h.last b

  -- the block of a key is removed from the map where its cell's block is empty
  same_test : (b : BlockKey) (c : Option ℕ) → cell_of h.places.table b ≡ c → (o : Option (List Voxel)) → get (blocks_of h.places) b ≡ o
      → cond (is_empty_in h.config.empty_f h.places.heap c) None o ≡ cond (not (active b && is_empty_at h.config.empty_f o)) o None
  same_test b None is None was = sym (none_either (not (active b && false)))
  same_test b None is (Some v) was =
      let off : false ≡ active b = ap is_some (sym is) ∙ s.active b ∙ ap (λ o. is_some o && active b) was in
      ap (λ t. cond (not (t && is_empty_block h.config.empty_f v)) (Some v) None) off
  same_test b (Some n) is o was =
      let v = block_in h.places.heap n in
      let here : o ≡ Some v = sym was ∙ get-resident h.places b n is in
      let on : true ≡ active b = ap is_some (sym is) ∙ s.active b ∙ ap (λ o. is_some o && active b) (get-resident h.places b n is) in
      subst (λ x. cond (is_empty_block h.config.empty_f v) None x ≡ cond (not (active b && is_empty_at h.config.empty_f x)) x None) (sym here)
      (kept_by (is_empty_block h.config.empty_f v) (Some v) ∙ ap (λ t. cond (not (t && is_empty_block h.config.empty_f v)) (Some v) None) on)

  -- the places tell the map without the removed blocks
  pub collected_blocks : (r : Places) → Collects h.config.empty_f h.places r → blocks_of r ≡ (collected h.config (state_of h)).blocks
  unfolding collected
  collected_blocks r x = same_map keys_total exact_keys _ _ (λ b.
      x.blocks b ∙ same_test b (cell_of h.places.table b) refl (get (blocks_of h.places) b) refl
      ∙ sym (get-retain_keys (blocks_of h.places) (λ q. not (is_collected h.config (state_of h) q)) b (λ q tie. ap (λ y. not (is_collected h.config (state_of h) y)) (sym (exact_keys b q tie)))))

  pub collected_state : (r : Places) → Collects h.config.empty_f h.places r → record { blocks = blocks_of r; frames = h.frames; last = h.last } ≡ collected h.config (state_of h)
  unfolding collected
  collected_state r x = ap (λ (m : BlockMap). record { blocks = m; frames = h.frames; last = h.last }) (collected_blocks r x)

  pub count_is : (r : Places) (n : ℕ) → Collects h.config.empty_f h.places r → n + len (blocks_of r) ≡ len (blocks_of h.places) → n ≡ collected_count h.config (state_of h)
  count_is r n x count =
      let same : len (blocks_of r) ≡ len (collected h.config (state_of h)).blocks = ap len (collected_blocks r x) in
      omega (arith, count, same)

  -- each block that is left was there
  was : (r : Places) → Collects h.config.empty_f h.places r → (b : BlockKey) (v : List Voxel) → get (blocks_of r) b ≡ Some v → get (blocks_of h.places) b ≡ Some v
  was r x b v is = was_some (is_empty_in h.config.empty_f h.places.heap (cell_of h.places.table b)) (get (blocks_of h.places) b) v (sym (x.blocks b) ∙ is)

  none_left : (r : Places) → Collects h.config.empty_f h.places r → blocks_of h.places ≡ empty → blocks_of r ≡ empty
  none_left r x none = same_map keys_total exact_keys _ _ (λ b.
      let t = is_empty_in h.config.empty_f h.places.heap (cell_of h.places.table b) in
      x.blocks b ∙ ap (λ o. cond t None o) (ap (λ (m : BlockMap). get m b) none ∙ get-empty key_cmp b) ∙ none_either t ∙ sym (get-empty key_cmp b))

  sound : (r : Places) → Collects h.config.empty_f h.places r → IsSound (settings_of h.config) (record { blocks = blocks_of r; frames = h.frames; last = h.last })
  sound r x = record {
    whole = λ b v is. s.sound.whole b v (was r x b v is);
    weights = λ b v is. s.sound.weights b v (was r x b v is);
    reach = λ b known. let v = some_of (get (blocks_of r) b) known in s.sound.reach b (ap is_some (was r x b v.0 v.1));
    empty = λ none. none_left r x (s.sound.empty none);
    frames = s.sound.frames;
  }

  -- what the type keeps
  pub settled_collected : (r : Places) → Collects h.config.empty_f h.places r → IsSettled (record { config = h.config; places = r; frames = h.frames; last = h.last })
  settled_collected r x = record {
    placed = x.placed;
    sound = sound r x;
    active = λ b.
        let t = is_empty_in h.config.empty_f h.places.heap (cell_of h.places.table b) in
        let a = contains_key (blocks_of h.places) b in
        let left : contains_key (blocks_of r) b ≡ (a && not t) = ap is_some (x.blocks b) ∙ still_some t (get (blocks_of h.places) b) in
        x.resident b ∙ ap (λ y. y && not t) (s.active b) ∙ turned a (active b) t ∙ ap (λ y. y && active b) (sym left);
    cells = x.cells ∙ s.cells;
    size = record { buckets = x.size.buckets ∙ s.size.buckets; nodes = x.size.nodes ∙ s.size.nodes };
  }
