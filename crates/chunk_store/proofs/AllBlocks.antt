-- The blocks of all rows, one after another.
use Rattle.std.proofs.Common.{◌≡◌, ℕ, ◌+◌, ◌^◌, ◌≤◌, List, length, sym, ap, arith, subst}
use Rattle.std.specs.List.{IsDistinct}
use Rattle.std.specs.Map.{keys_of}
use Rattle.std.specs.FinMap.{from_entries, len}
use Rattle.voxel_block.specs.Keys.{key_cmp, same_key}
use Rattle.chunk_store.specs.Rows.{Held}
use Rattle.chunk_store.specs.Changes.{Rows}
use Rattle.chunk_store.specs.Store.{IsStore, contents_of, held_of}
use Rattle.chunk_store.proofs.Bounds.{few_blocks}
use Rattle.chunk_store.proofs.Folding.{len_apart}
use Rattle.chunk_store.proofs.Listing.{all_apart}

pub blocks_apart : (es : Rows) (n : ℕ) (hs : List Held) → IsStore es n → hs ≡ held_of es → IsDistinct same_key (keys_of hs)
blocks_apart es n hs s is = subst (λ xs. IsDistinct same_key (keys_of xs)) (sym is) (all_apart es s.unique s.rows)

pub blocks_contents : (es : Rows) (hs : List Held) → hs ≡ held_of es → from_entries {R = key_cmp} hs ≡ contents_of es
unfolding contents_of
blocks_contents es hs is = ap from_entries is

pub blocks_bound : (es : Rows) (n : ℕ) (hs : List Held) → IsStore es n → hs ≡ held_of es → length hs ≤ 2 ^ 49
blocks_bound es n hs s is =
    let few : n ≤ 2 ^ 48 + 1 = few_blocks es n s in
    let count : n ≡ len (contents_of es) = s.count in
    let same : len (from_entries {R = key_cmp} hs) ≡ len (contents_of es) = ap len (blocks_contents es hs is) in
    let all : len (from_entries {R = key_cmp} hs) ≡ length hs = len_apart hs (blocks_apart es n hs s is) in
    omega arith
