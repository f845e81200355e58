use Rattle.std.proofs.Common.{get_or, Fits, w8, ◌≡◌, ◌<◌, ℕ, List, Ok, length, ap, sym, subst, ◌∙◌, arith, rules}
use Rattle.std.specs.Prelude.{All}
use Rattle.voxel_block.specs.declared.voxel.Voxel.{Voxel}
use Rattle.voxel_block.specs.Packing.{packed, key_in, voxels_in, IsFirstBad}
use Rattle.voxel_block.proofs.Packing.{length-voxels_in, voxels_in-packed, key_in-packed, packed_in, bytes_small, all_allowed, none_bad}
use Rattle.voxel_block.proofs.unpack.unpack_into.Goals as goal

pub returns-in-Some-clause-index : goal.returns-in-Some-clause-index
returns-in-Some-clause-index c =
    let P : List ℕ → Type 0 = λ bs. length bs ≡ 1542 in
    let long = length-voxels_in c.bytes-bytes.result.now (subst P (sym c.bytes-bytes.ensures.value) c.bytes-bytes.ensures.len) in
    let within = c.in-Some.ensures.within in
    omega arith

pub returns-in-Some-clause-back : goal.returns-in-Some-clause-back
returns-in-Some-clause-back c = λ k vs key block light is.
    let states : voxels_in c.bytes-bytes.result.now ≡ vs = ap voxels_in (c.bytes-bytes.ensures.value ∙ is) ∙ voxels_in-packed k vs block in
    let P : List Voxel → Type 0 = λ us. IsFirstBad c.args.max_weight us c.in-Some.voxel in
    absurd (none_bad c.args.max_weight vs c.in-Some.voxel (all_allowed c.args.max_weight vs block.voxels light) (subst P states c.in-Some.ensures))

pub returns-in-None-clause-form : goal.returns-in-None-clause-form
returns-in-None-clause-form c =
    let same = c.bytes-bytes.ensures.value in
    let read : packed c.key_of.result c.fill.new.out ≡ packed (key_in c.args.from.now) (voxels_in c.args.from.now) = λ j. packed ((c.key_of.ensures ∙ ap key_in same) j) ((c.fill.ensures ∙ ap voxels_in same) j) in
    let fits : (i : ℕ) → Fits w8 (get_or c.bytes-bytes.result.now i 0) = search rules in
    let small : All (λ b. b < 256) c.bytes-bytes.result.now = bytes_small c.bytes-bytes.result.now fits in
    let P : List ℕ → Type 0 = All (λ b. b < 256) in
    read ∙ packed_in c.args.from.now c.bytes-bytes.ensures.len (subst P same small)

pub returns-in-None-clause-back : goal.returns-in-None-clause-back
returns-in-None-clause-back c = λ k vs key block light is.
    let same = c.bytes-bytes.ensures.value ∙ is in
    let a = c.key_of.ensures ∙ ap key_in same ∙ key_in-packed k vs key in
    (λ j. Ok (a j), c.fill.ensures ∙ ap voxels_in same ∙ voxels_in-packed k vs block)
