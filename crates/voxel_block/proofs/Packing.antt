-- The packed form of a block, and what bytes state.
use Rattle.std.proofs.Common.{Fits, w8, inl, inr, ◌≡◌, ℕ, zero, suc, ◌+◌, ◌*◌, ◌^◌, ◌<◌, ◌≤◌, ℤ, List, [], ◌∷◌, ◌++◌, length, get_or, set, drop, take, refl, ap, sym, subst, ◌∙◌, arith, length-drop}
use Rattle.std.specs.Prelude.{Some, pos, All, slice_get, FitsSigned}
use Rattle.std.specs.List.{flat_map}
use Rattle.std.specs.Int.{w16, cast_signed, cast_unsigned, from_be_bytes, to_be_bytes}
use Rattle.std.proofs.lemmas.Int.{ints, to_z-of_z, of_z-to_z}
use Rattle.std.proofs.lemmas.Nat.{be_bytes_2, from_be_bytes-to_be_bytes_2}
use Rattle.std.proofs.lemmas.List.{get_or-drop, get_or-take, length-take, take_more, take_more_set, flat_map_more, length-set, take_all}
use Rattle.std.proofs.lemmas.List.Elements.{All-head, All-tail, All-drop, All-more, All-from_get_or, All-weaker}
use Rattle.std.proofs.lemmas.Bool.{cases_order}
use Rattle.std.proofs.lemmas.Option.{slice_get-get_or, get_or_from_slice_get}
use Rattle.std.proofs.lemmas.Slice.{take-put_mid}
use borrow.Rule.Slice.PartMut.{put_mid}
use Rattle.voxel_block.specs.declared.key.BlockKey.{BlockKey}
use Rattle.voxel_block.specs.declared.voxel.Voxel.{Voxel}
use Rattle.voxel_block.specs.Voxels.{IsVoxel}
use Rattle.voxel_block.specs.Packing.{bytes_16, voxel_bytes, packed, number_16, voxels_from, voxels_in, key_in, IsKey, IsBlock, IsAllowed, IsFirstBad}

-- ---- numbers

-- the number that a number's two bytes state
pub number_back : (z : ℤ) → FitsSigned w16 z → cast_signed w16 (from_be_bytes w16 (bytes_16 z)) ≡ z
number_back z fits =
    let small : cast_unsigned w16 z < 2 ^ 16 = omega (arith, ints) in
    ap (cast_signed w16) (from_be_bytes-to_be_bytes_2 (cast_unsigned w16 z) small) ∙ to_z-of_z w16 z fits

-- the two bytes of the number that two bytes state
pub bytes_back : (a b : ℕ) → a < 256 → b < 256 → bytes_16 (number_16 a b) ≡ a ∷ b ∷ []
bytes_back a b p q =
    let n : ℕ = from_be_bytes w16 (a ∷ b ∷ []) in
    let small : from_be_bytes w16 (a ∷ b ∷ []) < 2 ^ 16 = omega arith in
    ap (to_be_bytes w16) (of_z-to_z w16 (from_be_bytes w16 (a ∷ b ∷ [])) small)
    ∙ be_bytes_2 (a ∷ b ∷ []) (from_be_bytes w16 (a ∷ b ∷ [])) refl (each a b p q) refl
  where
    each : (a b : ℕ) → a < 256 → b < 256 → (i : ℕ) → get_or (a ∷ b ∷ []) i 0 < 256
    each a b p q zero = p
    each a b p q (suc zero) = q
    each a b p q (suc (suc i)) = omega arith

-- ---- from voxels to bytes and back

pub voxels_back : (vs : List Voxel) → All (λ v. FitsSigned w16 v.f) vs → voxels_from (flat_map voxel_bytes vs) ≡ vs
voxels_back [] fits = refl
voxels_back (v ∷ vs) fits =
    let P : Voxel → Type 0 = λ u. FitsSigned w16 u.f in
    let f : cast_signed w16 (from_be_bytes w16 (bytes_16 v.f)) ≡ v.f = number_back v.f (All-head P v vs fits) in
    let rest = voxels_back vs (All-tail P v vs fits) in
    λ k. record { f = f k; w = v.w } ∷ rest k

-- the voxels that the packed form of a block states
pub voxels_in-packed : (b : BlockKey) (vs : List Voxel) → IsBlock vs → voxels_in (packed b vs) ≡ vs
unfolding voxels_in packed
voxels_in-packed b vs block = voxels_back vs block.distances

-- the key that it states
pub key_in-packed : (b : BlockKey) (vs : List Voxel) → IsKey b → key_in (packed b vs) ≡ b
unfolding key_in packed
key_in-packed b vs key =
    let x = number_back b.x key.x in
    let y = number_back b.y key.y in
    let z = number_back b.z key.z in
    λ k. record { x = x k; y = y k; z = z k }

-- ---- from bytes to voxels and back

pub bytes_of_voxels : (n : ℕ) (bs : List ℕ) → length bs ≡ 3 * n → All (λ b. b < 256) bs → flat_map voxel_bytes (voxels_from bs) ≡ bs
bytes_of_voxels zero [] e small = refl
bytes_of_voxels zero (a ∷ bs) e small = absurd (omega arith)
bytes_of_voxels (suc n) [] e small = absurd (omega arith)
bytes_of_voxels (suc n) (a ∷ []) e small = absurd (omega arith)
bytes_of_voxels (suc n) (a ∷ b ∷ []) e small = absurd (omega arith)
bytes_of_voxels (suc n) (a ∷ b ∷ w ∷ rest) e small =
    let P : ℕ → Type 0 = λ c. c < 256 in
    let p : a < 256 = small 0 0 (omega arith) in
    let q : b < 256 = small 1 0 (omega arith) in
    let tail : All P rest = All-tail P w rest (All-tail P b (w ∷ rest) (All-tail P a (b ∷ w ∷ rest) small)) in
    let f : bytes_16 (number_16 a b) ≡ a ∷ b ∷ [] = bytes_back a b p q in
    let ih = bytes_of_voxels n rest (omega arith) tail in
    λ k. (f k ++ w ∷ []) ++ ih k

pub length-voxels_from : (n : ℕ) (bs : List ℕ) → length bs ≡ 3 * n → length (voxels_from bs) ≡ n
length-voxels_from zero [] e = refl
length-voxels_from zero (a ∷ bs) e = absurd (omega arith)
length-voxels_from (suc n) [] e = absurd (omega arith)
length-voxels_from (suc n) (a ∷ []) e = absurd (omega arith)
length-voxels_from (suc n) (a ∷ b ∷ []) e = absurd (omega arith)
length-voxels_from (suc n) (a ∷ b ∷ w ∷ rest) e = ap suc (length-voxels_from n rest (omega arith))

-- the voxel of an index
abbrev pub voxel_of : List ℕ → ℕ → Voxel
voxel_of bs at = record { f = number_16 (get_or bs at 0) (get_or bs (suc at) 0); w = get_or bs (suc (suc at)) 0 }

pub slice_get-voxels_from : (bs : List ℕ) (i : ℕ) → 3 * i + 3 ≤ length bs → slice_get (voxels_from bs) i ≡ Some (voxel_of bs (3 * i))
slice_get-voxels_from [] i h = absurd (omega arith)
slice_get-voxels_from (a ∷ []) i h = absurd (omega arith)
slice_get-voxels_from (a ∷ b ∷ []) i h = absurd (omega arith)
slice_get-voxels_from (a ∷ b ∷ w ∷ rest) zero h = refl
slice_get-voxels_from (a ∷ b ∷ w ∷ rest) (suc i) h =
    let e : 3 * suc i ≡ suc (suc (suc (3 * i))) = omega arith in
    slice_get-voxels_from rest i (omega arith) ∙ ap (λ at. Some (voxel_of (a ∷ b ∷ w ∷ rest) at)) (sym e)

pub length-voxels_in : (bs : List ℕ) → length bs ≡ 1542 → length (voxels_in bs) ≡ 512
unfolding voxels_in
length-voxels_in bs e = length-voxels_from 512 (drop 6 bs) (simp length-drop (omega arith))

pub voxel_read_at : (bs : List ℕ) (i : ℕ) (f : ℤ) (w : ℕ) → length bs ≡ 1542 → i < 512 → f ≡ number_16 (get_or bs (6 + 3 * i) 0) (get_or bs (6 + 3 * i + 1) 0) → w ≡ get_or bs (6 + 3 * i + 2) 0
    → slice_get (voxels_in bs) i ≡ Some (record { f = f; w = w })
unfolding voxels_in
voxel_read_at bs i f w long below p q =
    let b : 6 + suc (3 * i) ≡ 6 + 3 * i + 1 = omega arith in
    let c : 6 + suc (suc (3 * i)) ≡ 6 + 3 * i + 2 = omega arith in
    let room : 3 * i + 3 ≤ length (drop 6 bs) = simp length-drop (omega arith) in
    let first : get_or (drop 6 bs) (3 * i) 0 ≡ get_or bs (6 + 3 * i) 0 = get_or-drop 6 bs (3 * i) 0 in
    let second : get_or (drop 6 bs) (suc (3 * i)) 0 ≡ get_or bs (6 + 3 * i + 1) 0 = get_or-drop 6 bs (suc (3 * i)) 0 ∙ ap (λ n. get_or bs n 0) b in
    let third : get_or (drop 6 bs) (suc (suc (3 * i))) 0 ≡ get_or bs (6 + 3 * i + 2) 0 = get_or-drop 6 bs (suc (suc (3 * i))) 0 ∙ ap (λ n. get_or bs n 0) c in
    let x : number_16 (get_or (drop 6 bs) (3 * i) 0) (get_or (drop 6 bs) (suc (3 * i)) 0) ≡ f = (λ k. number_16 (first k) (second k)) ∙ sym p in
    slice_get-voxels_from (drop 6 bs) i room ∙ (λ k. Some (record { f = x k; w = (third ∙ sym q) k }))

-- the form that bytes state is theirs
pub packed_in : (bs : List ℕ) → length bs ≡ 1542 → All (λ b. b < 256) bs → packed (key_in bs) (voxels_in bs) ≡ bs
unfolding packed key_in voxels_in
packed_in (a ∷ b ∷ c ∷ d ∷ e ∷ f ∷ bs) long small =
    let P : ℕ → Type 0 = λ c. c < 256 in
    let x : bytes_16 (number_16 a b) ≡ a ∷ b ∷ [] = bytes_back a b (small 0 0 (omega arith)) (small 1 0 (omega arith)) in
    let y : bytes_16 (number_16 c d) ≡ c ∷ d ∷ [] = bytes_back c d (small 2 0 (omega arith)) (small 3 0 (omega arith)) in
    let z : bytes_16 (number_16 e f) ≡ e ∷ f ∷ [] = bytes_back e f (small 4 0 (omega arith)) (small 5 0 (omega arith)) in
    let rest : flat_map voxel_bytes (voxels_from bs) ≡ bs = bytes_of_voxels 512 bs (omega arith) (All-drop P 6 (a ∷ b ∷ c ∷ d ∷ e ∷ f ∷ bs) small) in
    λ k. (x k ++ y k ++ z k) ++ rest k
packed_in [] long small = absurd (omega arith)
packed_in (a ∷ []) long small = absurd (omega arith)
packed_in (a ∷ b ∷ []) long small = absurd (omega arith)
packed_in (a ∷ b ∷ c ∷ []) long small = absurd (omega arith)
packed_in (a ∷ b ∷ c ∷ d ∷ []) long small = absurd (omega arith)
packed_in (a ∷ b ∷ c ∷ d ∷ e ∷ []) long small = absurd (omega arith)

-- bytes that fit 8 bits
pub bytes_small : (bs : List ℕ) → ((i : ℕ) → Fits w8 (get_or bs i 0)) → All (λ b. b < 256) bs
bytes_small bs fits =
    let P : ℕ → Type 0 = λ b. b < 256 in
    All-from_get_or P bs 0 (λ i below. let h = fits i in omega arith)

-- ---- what holds of each voxel up to an index

module _ (P : Voxel → Type 0) (vs : List Voxel) where
  pub holds_more : (i : ℕ) (v : Voxel) → i < length vs → slice_get vs i ≡ Some v → P v → All P (take i vs) → All P (take (i + 1) vs)
  holds_more i v within is holds all = All-more P vs i v within all (subst P (sym (get_or_from_slice_get vs i v v is)) holds)

  pub holds_all : (i : ℕ) → length vs ≤ i → All P (take i vs) → All P vs
  holds_all i past all = let Q : List Voxel → Type 0 = All P in subst Q (take_all i vs past) all

-- ---- a loop that writes the voxels of a block

-- a voxel that a block has
pub record IsHeld (v : Voxel) : Type 0 where
  pub voxel : IsVoxel v
  pub f : FitsSigned w16 v.f
  pub w : v.w < 256

-- out begins with the first i voxels of a block
pub record IsWritten (vs : List Voxel) (out : List ℕ) (i : ℕ) : Type 0 where
  pub bytes : take (3 * i) out ≡ flat_map voxel_bytes (take i vs)
  pub held : All IsHeld (take i vs)

pub written_none : (vs : List Voxel) (out : List ℕ) → IsWritten vs out 0
written_none vs out = record { bytes = refl; held = λ k v below. absurd (omega arith) }

pub written_more : (vs : List Voxel) (out new : List ℕ) (i : ℕ) (v : Voxel) → length out ≡ 1536 → length vs ≡ 512 → i < 512 → IsWritten vs out i → slice_get vs i ≡ Some v → IsHeld v
    → new ≡ put_mid (3 * i) 3 out (voxel_bytes v) → IsWritten vs new (i + 1)
written_more vs out new i v long count below h is one put =
    let at : get_or vs i v ≡ v = get_or_from_slice_get vs i v v is in
    let more : take (i + 1) vs ≡ take i vs ++ v ∷ [] = take_more vs i v (omega arith) ∙ ap (λ u. take i vs ++ u ∷ []) at in
    let front : take (3 * (i + 1)) (put_mid (3 * i) 3 out (voxel_bytes v)) ≡ take (3 * i) out ++ voxel_bytes v = take-put_mid (3 * i) 3 out (voxel_bytes v) (3 * (i + 1)) (omega arith) (omega arith) in
    record {
      bytes = ap (take (3 * (i + 1))) put ∙ front ∙ ap (λ xs. xs ++ voxel_bytes v) h.bytes ∙ flat_map_more voxel_bytes [] (take i vs) v ∙ ap (flat_map voxel_bytes) (sym more);
      held = holds_more IsHeld vs i v (omega arith) is one h.held;
    }

pub written_all : (vs : List Voxel) (out : List ℕ) (i : ℕ) → length out ≡ 1536 → length vs ≡ 512 → i ≡ 512 → IsWritten vs out i → out ≡ flat_map voxel_bytes vs
written_all vs out i long count end h =
    let a : take (3 * i) out ≡ out = take_all (3 * i) out (omega arith) in
    let b : take i vs ≡ vs = take_all i vs (omega arith) in
    sym a ∙ h.bytes ∙ ap (flat_map voxel_bytes) b

pub block_of : (vs : List Voxel) (out : List ℕ) (i : ℕ) → length vs ≡ 512 → i ≡ 512 → IsWritten vs out i → IsBlock vs
block_of vs out i count end h =
    let Q : Voxel → Type 0 = λ v. FitsSigned w16 v.f in
    let R : Voxel → Type 0 = λ v. v.w < 256 in
    let all : All IsHeld vs = holds_all IsHeld vs i (omega arith) h.held in
    record {
      count = count;
      voxels = All-weaker IsHeld IsVoxel (λ v h. h.voxel) vs all;
      distances = All-weaker IsHeld Q (λ v h. h.f) vs all;
      weights = All-weaker IsHeld R (λ v h. h.w) vs all;
    }

-- ---- a loop that makes a block of voxels

-- the first i voxels of a block are those of vs
pub record IsFilled (vs out : List Voxel) (i : ℕ) : Type 0 where
  pub front : take i out ≡ take i vs
  pub count : length out ≡ 512

pub filled_more : (vs out new : List Voxel) (i : ℕ) (v : Voxel) → length vs ≡ 512 → i < 512 → IsFilled vs out i → slice_get vs i ≡ Some v → new ≡ set out i v → IsFilled vs new (i + 1)
filled_more vs out new i v count below h is put =
    let long = h.count in
    let at : get_or vs i v ≡ v = get_or_from_slice_get vs i v v is in
    let more : take (i + 1) vs ≡ take i vs ++ v ∷ [] = take_more vs i v (omega arith) ∙ ap (λ u. take i vs ++ u ∷ []) at in
    record {
      front = ap (take (i + 1)) put ∙ take_more_set out i v (omega arith) ∙ ap (λ us. us ++ v ∷ []) h.front ∙ sym more;
      count = ap length put ∙ length-set out i v ∙ h.count;
    }

pub filled_all : (vs out : List Voxel) (i : ℕ) → length vs ≡ 512 → i ≡ 512 → IsFilled vs out i → out ≡ vs
filled_all vs out i count end h =
    let long = h.count in
    sym (take_all i out (omega arith)) ∙ h.front ∙ take_all i vs (omega arith)

-- ---- voxels that are allowed

-- each voxel of a block is allowed where no weight is above the greatest
pub all_allowed : (max_weight : ℕ) (vs : List Voxel) → All IsVoxel vs → All (λ v. v.w ≤ max_weight) vs → All (IsAllowed max_weight) vs
all_allowed max_weight vs voxels weights = λ k d below. record { voxel = voxels k d below; weight = weights k d below }

-- no voxel of such a block is bad
pub none_bad : (max_weight : ℕ) (vs : List Voxel) (i : ℕ) → All (IsAllowed max_weight) vs → IsFirstBad max_weight vs i → ⊥
none_bad max_weight vs i all h =
    let d : Voxel = record { f = pos 0; w = 0 } in
    h.bad (get_or vs i d) (slice_get-get_or vs i d h.within) (all i d h.within)

-- two voxels that are each the first bad one have the same index
pub first_bad_is_one : (max_weight : ℕ) (vs : List Voxel) (i j : ℕ) → IsFirstBad max_weight vs i → IsFirstBad max_weight vs j → i ≡ j
first_bad_is_one max_weight vs i j p q =
    elim (cases_order i j) [
      | inl same ↦ same
      | inr (inl less) ↦ absurd (earlier max_weight vs i j p q less)
      | inr (inr more) ↦ absurd (earlier max_weight vs j i q p more)
    ]
  where
    earlier : (max_weight : ℕ) (vs : List Voxel) (i j : ℕ) → IsFirstBad max_weight vs i → IsFirstBad max_weight vs j → i < j → ⊥
    earlier max_weight vs i j p q less =
        let P : Voxel → Type 0 = IsAllowed max_weight in
        let d : Voxel = record { f = pos 0; w = 0 } in
        let a = p.within in
        let b = q.within in
        let here : i < length (take j vs) = simp length-take (omega arith) in
        p.bad (get_or vs i d) (slice_get-get_or vs i d p.within) (subst P (get_or-take j vs i d less) (q.before i d here))
