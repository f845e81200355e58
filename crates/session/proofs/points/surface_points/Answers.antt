use Rattle.std.proofs.Common.{◌≡◌, sym, ap, subst, ◌∙◌, rules}
use Rattle.std.specs.Prelude.{IfOk}
use Rattle.std.specs.List.{flat_map, list_any}
use Rattle.std.specs.FinMap.{contains_key-keys, keys}
use Rattle.std.proofs.lemmas.Int.{to_z-of_z}
use mir.Val.{SFits, of_z, to_z}
use mir.Syntax.{w64}
use Rattle.voxel_block.specs.Keys.{same_key}
use Rattle.crossing_export.specs.Crossings.{block_crossings}
use Rattle.streamer.specs.Places.{blocks_of}
use Rattle.session.proofs.points.surface_points.Goals as goal

pub points_at_keys-requires-clause-known : goal.points_at_keys-requires-clause-known
points_at_keys-requires-clause-known c = λ b h. contains_key-keys (blocks_of c.args.rest.now) b ∙ ap (list_any (same_key b)) (sym (c.deref.ensures.value ∙ c.in_ok-keys.ensures.blocks)) ∙ h

pub returns : goal.returns
returns c =
    let fits : SFits w64 c.args.size = search rules in
    let m = blocks_of c.args.rest.now in
    subst (λ s. IfOk c.points_at_keys.result (λ v. v.items ≡ flat_map (block_crossings m s) (keys m))) (to_z-of_z w64 c.args.size fits)
    (subst (λ ks. IfOk c.points_at_keys.result (λ v. v.items ≡ flat_map (block_crossings m (to_z w64 (of_z w64 c.args.size))) ks)) (c.deref.ensures.value ∙ c.in_ok-keys.ensures.blocks) c.points_at_keys.ensures)
