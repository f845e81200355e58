-- Blocks of the heap that are updated, key by key.
use Rattle.std.proofs.Common.{◌≡◌, Bool, true, false, cond, ◌&&◌, ◌||◌, not, List, [], ◌∷◌, refl, sym, ap, subst, ◌∙◌}
use Rattle.std.proofs.Math.Bool.{and-false}
use Rattle.std.specs.Prelude.{Option, Some, None, is_some, unwrap_or}
use Rattle.std.specs.Option.{option_map}
use Rattle.std.specs.List.{IsDistinct}
use Rattle.std.specs.FinMap.{contains_key, get, insert}
use Rattle.voxel_block.specs.declared.key.BlockKey.{BlockKey}
use Rattle.voxel_block.specs.declared.voxel.Voxel.{Voxel}
use Rattle.voxel_block.specs.Blocks.{new_block}
use Rattle.voxel_block.specs.Keys.{same_key}
use Rattle.voxel_block.proofs.KeyLaws.{by_key, key_itself, other_key, put_elsewhere, put_here}
use Rattle.fuse_kernel.specs.Updates.{updated}
use Rattle.spatial_hash.specs.Contents.{contents}
use Rattle.streamer.specs.Places.{IsPlaced, Places, blocks_of, cell_of, in_heap}
use Rattle.streamer.proofs.Blocks.{get-resident}
use Rattle.streamer.proofs.Keyed.{some_of}
use Rattle.fusion_core.specs.Frames.{Frame, view}
use Rattle.fusion_core.specs.Maps.{BlockMap, voxels_at}
use Rattle.session.specs.Rooms.{StaysInPlace}
use Rattle.session.specs.Updating.{UpdatesEach}
use Rattle.session.proofs.MovingLemmas.{any, is_first, is_later, no_more, once_more}
use Rattle.session.proofs.StandingLemmas.{resident_known}

-- ---- one block

-- what is told of a resident key is what its cell has
pub heap_told : (p : Places) (k : BlockKey) (v : List Voxel) → Some v ≡ in_heap p.heap (cell_of p.table k) → contains_key (contents p.table) k ≡ true → voxels_at (blocks_of p) k ≡ v
heap_told p k v is resident =
    let cell = some_of (cell_of p.table k) resident in
    ap (λ o. unwrap_or o new_block) (get-resident p k cell.0 cell.1 ∙ sym (ap (in_heap p.heap) cell.1) ∙ sym is)

-- ---- the blocks of a list

abbrev by : Frame → BlockKey → Option (List Voxel) → Option (List Voxel)
by f q o = option_map (updated (view f) f.max_weight q) o

pub record Updating (f : Frame) (p r : Places) (ks rest : List BlockKey) : Type 0 where
  pub stays : StaysInPlace p r
  pub once : IsDistinct same_key rest
  pub only : (q : BlockKey) → any q rest ≡ true → any q ks ≡ true
  -- those of the first keys are updated
  pub done : (q : BlockKey) → get (blocks_of r) q ≡ cond (any q ks && not (any q rest)) (by f q (get (blocks_of p) q)) (get (blocks_of p) q)

none_done : {X : Type 0} (a : Bool) (x y : X) → y ≡ cond (a && not a) x y
none_done true x y = refl
none_done false x y = refl

all_done : {X : Type 0} (a : Bool) (x y : X) → cond (a && not false) x y ≡ cond a x y
all_done true x y = refl
all_done false x y = refl

pub updating_start : (f : Frame) (p : Places) (ks : List BlockKey) → IsPlaced p → IsDistinct same_key ks → Updating f p p ks ks
updating_start f p ks placed once = record {
  stays = record { table = refl; store = refl; cells = refl; placed = placed };
  once = once;
  only = λ q e. e;
  done = λ q. none_done (any q ks) (by f q (get (blocks_of p) q)) (get (blocks_of p) q);
}

mapped : {X Y : Type 0} (g : X → Y) (d : X) (o : Option X) → is_some o ≡ true → Some (g (unwrap_or o d)) ≡ option_map g o
mapped g d None e = absurd (cc)
mapped g d (Some x) e = refl

pub updating_resident : (f : Frame) (p r : Places) (k : BlockKey) (ks rest tail : List BlockKey) → Updating f p r ks rest → rest ≡ k ∷ tail
    → ((q : BlockKey) → any q ks ≡ true → contains_key (contents p.table) q ≡ true) → contains_key (contents r.table) k ≡ true
updating_resident f p r k ks rest tail x is resident = ap (λ t. contains_key (contents t) k) x.stays.table ∙ resident k (x.only k (is_first k rest tail is))

pub updating_next : (f : Frame) (p r s : Places) (k : BlockKey) (ks rest tail : List BlockKey) → Updating f p r ks rest → rest ≡ k ∷ tail → contains_key (contents r.table) k ≡ true
    → StaysInPlace r s → blocks_of s ≡ insert (blocks_of r) k (updated (view f) f.max_weight k (voxels_at (blocks_of r) k)) → Updating f p s ks tail
updating_next f p r s k ks rest tail x is resident stays becomes = record {
  stays = record { table = stays.table ∙ x.stays.table; store = stays.store ∙ x.stays.store; cells = stays.cells ∙ x.stays.cells; placed = stays.placed };
  once = once_more k rest tail is x.once;
  only = λ q e. x.only q (is_later k rest tail is q e);
  done = λ q. by_key q k (λ e. here q e) (λ other. there q other);
}
  where
    first : any k rest ≡ true
    first = is_first k rest tail is

    -- the block was as before
    was : get (blocks_of r) k ≡ get (blocks_of p) k
    was = x.done k ∙ ap (λ b. cond (any k ks && not b) (by f k (get (blocks_of p) k)) (get (blocks_of p) k)) first ∙ ap (λ b. cond b (by f k (get (blocks_of p) k)) (get (blocks_of p) k)) (and-false (any k ks))

    known : is_some (get (blocks_of r) k) ≡ true
    known = resident_known r x.stays.placed k resident

    at : get (blocks_of s) k ≡ cond (any k ks && not (any k tail)) (by f k (get (blocks_of p) k)) (get (blocks_of p) k)
    at =
        ap (λ (m : BlockMap). get m k) becomes ∙ put_here (blocks_of r) k _ ∙ mapped (updated (view f) f.max_weight k) new_block (get (blocks_of r) k) known ∙ ap (by f k) was
        ∙ sym (λ i. cond (x.only k first i && not (no_more k rest tail is x.once k (key_itself k) i)) (by f k (get (blocks_of p) k)) (get (blocks_of p) k))

    here : (q : BlockKey) → q ≡ k → get (blocks_of s) q ≡ cond (any q ks && not (any q tail)) (by f q (get (blocks_of p) q)) (get (blocks_of p) q)
    here q e = subst (λ y. get (blocks_of s) y ≡ cond (any y ks && not (any y tail)) (by f y (get (blocks_of p) y)) (get (blocks_of p) y)) (sym e) at

    there : (q : BlockKey) → (q ≡ k → ⊥) → get (blocks_of s) q ≡ cond (any q ks && not (any q tail)) (by f q (get (blocks_of p) q)) (get (blocks_of p) q)
    there q other =
        let same : any q rest ≡ any q tail = ap (any q) is ∙ ap (λ b. b || any q tail) (other_key q k other) in
        ap (λ (m : BlockMap). get m q) becomes ∙ put_elsewhere (blocks_of r) k q _ other ∙ x.done q ∙ ap (λ b. cond (any q ks && not b) (by f q (get (blocks_of p) q)) (get (blocks_of p) q)) same

pub updating_end : (f : Frame) (p r : Places) (ks rest : List BlockKey) → Updating f p r ks rest → rest ≡ [] → UpdatesEach f ks (blocks_of p) (blocks_of r)
updating_end f p r ks rest x none q =
    x.done q ∙ ap (λ ls. cond (any q ks && not (any q ls)) (by f q (get (blocks_of p) q)) (get (blocks_of p) q)) none ∙ all_done (any q ks) (by f q (get (blocks_of p) q)) (get (blocks_of p) q)
