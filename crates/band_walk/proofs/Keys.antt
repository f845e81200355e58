-- The keys of a list without repeats.
use Rattle.std.proofs.Common.{◌≡◌, ◌≢◌, Bool, true, false, cond, refl, sym, ap, List, [], ◌∷◌}
use Rattle.std.specs.Prelude.{Option, None, Some, Contains}
use Rattle.std.specs.List.{dedup, dedup_from}
use Rattle.std.specs.Cmp.{eq_by_cmp_equiv}
use Rattle.std.proofs.lemmas.List.Kept.{Contains-dedup, Contains-from_dedup}
use Rattle.voxel_block.specs.declared.key.BlockKey.{BlockKey}
use Rattle.voxel_block.specs.Keys.{same_key}
use Rattle.voxel_block.proofs.KeyLaws.{keys_total, other_key, same_key_is}
use Rattle.band_walk.specs.Remaining.{keys_after}

-- ---- what is kept

pub kept : (bs : List BlockKey) (b : BlockKey) → Contains bs b → Contains (dedup same_key bs) b
kept bs b c = Contains-dedup (eq_by_cmp_equiv keys_total) same_key_is bs b c

pub was_there : (bs : List BlockKey) (b : BlockKey) → Contains (dedup same_key bs) b → Contains bs b
was_there bs b c = Contains-from_dedup same_key bs b c

-- ---- keys after the key given last

-- after a key they are what `dedup` leaves after it
after : (k : BlockKey) (bs : List BlockKey) → k ∷ keys_after (Some k) bs ≡ dedup_from same_key k bs
after k [] = refl
after k (b ∷ bs) = by (same_key b k) (after k bs) (after b bs)
  where
    by : (t : Bool) → k ∷ keys_after (Some k) bs ≡ dedup_from same_key k bs → b ∷ keys_after (Some b) bs ≡ dedup_from same_key b bs → k ∷ cond t (keys_after (Some k) bs) (b ∷ keys_after (Some b) bs) ≡ cond t (dedup_from same_key k bs) (k ∷ dedup_from same_key b bs)
    by true e f = e
    by false e f = ap (λ ks. k ∷ ks) f

-- from the first block on they are what `dedup` leaves
pub keys_from_first : (bs : List BlockKey) → keys_after None bs ≡ dedup same_key bs
keys_from_first [] = refl
keys_from_first (b ∷ bs) = after b bs

-- a key that is not the one given last is the next one
pub given : (last : Option BlockKey) (k : BlockKey) (bs : List BlockKey) → last ≢ Some k → keys_after last (k ∷ bs) ≡ k ∷ keys_after (Some k) bs
given None k bs ne = refl
given (Some l) k bs ne =
    let other : same_key k l ≡ false = other_key k l (λ e. ne (ap Some (sym e))) in
    ap (λ t. cond t (keys_after (Some l) bs) (k ∷ keys_after (Some k) bs)) other
