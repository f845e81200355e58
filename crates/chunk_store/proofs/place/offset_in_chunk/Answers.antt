use Rattle.std.proofs.Common.{◌≡◌, rules, ap, ◌∙◌, to_z, of_z, w16, refl}
use Rattle.std.specs.Prelude.{pos, unsigned_abs}
use Rattle.std.proofs.lemmas.Int.{to_z-of_z}
use Rattle.chunk_store.specs.Rows.{offset_of}
use Rattle.chunk_store.proofs.Words.{is_short}
use Rattle.chunk_store.proofs.place.offset_in_chunk.Goals as goal

pub returns-clause-value : goal.returns-clause-value
unfolding offset_of
returns-clause-value c =
    let e : to_z w16 (of_z w16 c.rem_euclid.result) ≡ c.rem_euclid.result = to_z-of_z w16 c.rem_euclid.result (record { sfits = c.rem_euclid.type_inv }) in
    let f : to_z w16 (of_z w16 c.args.coordinate) ≡ c.args.coordinate = to_z-of_z w16 c.args.coordinate c.ranges.coordinate in
    let g : to_z w16 (of_z w16 (pos 8)) ≡ pos 8 = search rules in
    ap unsigned_abs (e ∙ c.rem_euclid.ensures.value) ∙ rw (f, g) refl

pub returns-clause-short : goal.returns-clause-short
returns-clause-short c = is_short c.args.coordinate c.ranges.coordinate
