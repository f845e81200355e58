-- Keys that are known, and the next ones.
use Rattle.std.proofs.Common.{◌≡◌, ℕ, zero, suc, ◌<◌, ◌||◌, List, [], ◌∷◌, length, slice_index_or, refl, ap, ◌∙◌, arith}
use Rattle.std.proofs.Math.Bool.{or-true}
use Rattle.std.specs.Prelude.{Option, Some, None, is_some, IsTrue}
use Rattle.std.specs.List.{list_any}
use Rattle.std.specs.FinMap.{get}
use Rattle.voxel_block.specs.declared.key.BlockKey.{BlockKey}
use Rattle.voxel_block.specs.declared.voxel.Voxel.{Voxel}
use Rattle.voxel_block.specs.Keys.{same_key}
use Rattle.voxel_block.specs.Packing.{IsKey}
use Rattle.voxel_block.proofs.KeyLaws.{key_itself}
use Rattle.streamer.specs.Places.{IsPlaced, Places, blocks_of}
use Rattle.streamer.proofs.KnownKeys.{known_fits}
use Rattle.streamer.proofs.Sorting.{no_key}

-- each key of a list stands in it
pub listed_at : (ks : List BlockKey) (i : ℕ) → i < length ks → IsTrue (list_any (same_key (slice_index_or ks i no_key)) ks)
listed_at [] i h = absurd (omega arith)
listed_at (k ∷ ks) zero h = ap (λ t. t || list_any (same_key k) ks) (key_itself k)
listed_at (k ∷ ks) (suc i) h =
    let rest = listed_at ks i (omega arith) in
    ap (λ t. same_key (slice_index_or ks i no_key) k || t) rest ∙ or-true (same_key (slice_index_or ks i no_key) k)

-- a key whose coordinates do not fit is not known
pub unknown : (p : Places) (b : BlockKey) → IsPlaced p → (IsKey b → ⊥) → get (blocks_of p) b ≡ None
unknown p b placed other = by (get (blocks_of p) b) refl
  where
    by : (o : Option (List Voxel)) → get (blocks_of p) b ≡ o → o ≡ None
    by None e = refl
    by (Some v) e = absurd (other (known_fits p b placed (ap is_some e)))
