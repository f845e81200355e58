-- A key from its chunk and its place in the chunk.
use Rattle.std.proofs.Common.{◌≡◌, ℕ, ◌+◌, ◌*◌, ◌/◌, ◌<◌, ℤ, ap, arith}
use Rattle.std.specs.Prelude.{pos, negsuc}
use Rattle.std.specs.Int.{int_div_euclid}
use Rattle.voxel_block.specs.declared.key.BlockKey.{BlockKey}
use Rattle.voxel_block.specs.declared.chunk.ChunkKey.{ChunkKey}
use Rattle.voxel_block.specs.Chunks.{chunk_of}
use Rattle.chunk_store.specs.Rows.{offset_of, place_of}

pub offset_low : (a : ℤ) → offset_of a < 8
unfolding offset_of
offset_low (pos a) = omega arith
offset_low (negsuc a) = omega arith

same_coordinate : (a b : ℤ) → int_div_euclid a (pos 8) ≡ int_div_euclid b (pos 8) → offset_of a ≡ offset_of b → a ≡ b
unfolding offset_of
same_coordinate (pos a) (pos b) d o = (let q : a / 8 ≡ b / 8 = cc in let e : a ≡ b = omega arith in ap pos e)
same_coordinate (pos a) (negsuc b) d o = (let d' : pos (a / 8) ≡ negsuc (b / 8) = d in absurd (cc))
same_coordinate (negsuc a) (pos b) d o = (let d' : negsuc (a / 8) ≡ pos (b / 8) = d in absurd (cc))
same_coordinate (negsuc a) (negsuc b) d o = (let q : a / 8 ≡ b / 8 = cc in let e : a ≡ b = omega arith in ap negsuc e)

same_digits : (a b c d e f : ℕ) → a < 8 → b < 8 → c < 8 → d < 8 → e < 8 → f < 8 → a * 64 + b * 8 + c ≡ d * 64 + e * 8 + f → (a ≡ d) × (b ≡ e) × (c ≡ f)
same_digits a b c d e f ha hb hc hd he hf h = (omega arith, omega arith, omega arith)

pub place_low : (k : BlockKey) → place_of k < 512
unfolding place_of
place_low k =
    let x = offset_low k.x in
    let y = offset_low k.y in
    let z = offset_low k.z in
    omega arith

-- keys of one chunk and of one place are one
pub same_block : (j k : BlockKey) → chunk_of j ≡ chunk_of k → place_of j ≡ place_of k → j ≡ k
unfolding place_of
same_block j k c p =
    let o = same_digits (offset_of j.x) (offset_of j.y) (offset_of j.z) (offset_of k.x) (offset_of k.y) (offset_of k.z) (offset_low j.x) (offset_low j.y) (offset_low j.z) (offset_low k.x) (offset_low k.y) (offset_low k.z) p in
    let x = same_coordinate j.x k.x (ap (λ (q : ChunkKey). q.x) c) o.0 in
    let y = same_coordinate j.y k.y (ap (λ (q : ChunkKey). q.y) c) o.1 in
    let z = same_coordinate j.z k.z (ap (λ (q : ChunkKey). q.z) c) o.2 in
    λ i. record { x = x i; y = y i; z = z i }
