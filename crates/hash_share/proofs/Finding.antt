-- A key that was touched is found at the entry that the touch answered.
use Rattle.std.proofs.Common.{◌≡◌, ℕ, map}
use Rattle.std.specs.Prelude.{Some}
use Rattle.voxel_block.specs.declared.key.BlockKey.{BlockKey}
use Rattle.voxel_block.specs.Words.{word_of, key_of}
use Rattle.fusion_core.proofs.TouchAbsence.{touched_is_found}
use Rattle.fusion_core.proofs.TouchSums.{at_map}
use Rattle.hash_share.specs.declared.touched.Touched.{Touched}
use Rattle.hash_share.specs.declared.touched.Touched.TheVariants.{New, Old, Spent}
use Rattle.hash_share.specs.Rule.{seat_in}
use Rattle.hash_share.specs.Seats.{Share, Toucher, IsFindable, FindsIt}
use Rattle.hash_share.specs.Steps.{HasPair}
use Rattle.hash_share.specs.Touching.{IsTouched}

findable : (share : Share) (seat : Toucher) (k : BlockKey) (e : ℕ) → key_of (word_of k) ≡ Some k → HasPair (word_of k) e seat.knows → IsFindable share seat k e
findable share seat k e back there now at =
    touched_is_found share.start share.seats now.words (map seat_in now.views) at.0.rule seat.id (seat_in seat.knows) (at_map seat_in now.views seat.id seat.knows at.1) k e back there

pub finds_it : (share : Share) (old seat : Toucher) (k : BlockKey) (t : Touched) → key_of (word_of k) ≡ Some k → IsTouched (word_of k) old.knows seat.knows t → FindsIt share seat k t
finds_it share old seat k (New e) back is = findable share seat k e back is.2.pair
finds_it share old seat k (Old e) back is = findable share seat k e back is.2.pair
finds_it share old seat k (Spent d) back is = tt
