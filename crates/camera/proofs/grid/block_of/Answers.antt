use Rattle.std.proofs.Common.{refl, ◌∙◌}
use Rattle.camera.proofs.KeyLemmas.{block_floor}
use Rattle.camera.proofs.grid.block_of.Goals as goal

pub returns : goal.returns
returns c =
    let p = c.args.p in
    let x = block_floor c.div_euclid.result p.x c.args.size (record { sfits = c.div_euclid.type_inv }) c.requires.p.x c.requires.size c.requires.size_high c.div_euclid.ensures in
    let y = block_floor c.div_euclid-2.result p.y c.args.size (record { sfits = c.div_euclid-2.type_inv }) c.requires.p.y c.requires.size c.requires.size_high c.div_euclid-2.ensures in
    let z = block_floor c.div_euclid-3.result p.z c.args.size (record { sfits = c.div_euclid-3.type_inv }) c.requires.p.z c.requires.size c.requires.size_high c.div_euclid-3.ensures in
    c.key.ensures ∙ rw (x, y, z) refl
