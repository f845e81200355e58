-- Chunks that compare alike are one.
use Rattle.std.proofs.Common.{◌≡◌, ◌≢◌, ℤ, true, false, refl, sym, ap, ◌∙◌, inl, inr, List, [], ◌∷◌, cond, ◌||◌}
use Rattle.std.specs.Prelude.{Some, is_some}
use Rattle.std.specs.Bool.{Decides}
use Rattle.std.specs.Cmp.{IsEquivalence, IsTotalOrder, Equal-is, decided, eq_by_cmp_equiv}
use Rattle.std.specs.Ordering.{eq_by_cmp, int_cmp, int_eq, ordering_then}
use Rattle.std.specs.Map.{keys_of, lookup}
use Rattle.std.specs.List.{list_any}
use Rattle.std.proofs.lemmas.Bool.{cases_Bool, false_from_ne_true}
use Rattle.std.proofs.lemmas.Bool.Decides.{Decides-and, Decides-int_eq, Decides-like, same_from_decides}
use Rattle.std.proofs.lemmas.Cmp.{int_cmp_total, on_total, then_total}
use Rattle.std.proofs.lemmas.Map.Lookups.{CmpEqualImpliesEq, exact_pairs, exact_signed}
use Rattle.voxel_block.specs.declared.chunk.ChunkKey.{ChunkKey}
use Rattle.voxel_block.specs.Chunks.{chunk_cmp}
use Rattle.chunk_store.specs.Rows.{chunk_eq}

pub chunk_decides : (a b : ChunkKey) → Decides (chunk_eq a b) (a ≡ b)
chunk_decides a b = Decides-like (chunk_eq a b)
    (λ (h : (a.x ≡ b.x) × ((a.y ≡ b.y) × (a.z ≡ b.z))). λ i. record { x = h.0 i; y = h.1.0 i; z = h.1.1 i })
    (λ e. (ap (λ (q : ChunkKey). q.x) e, (ap (λ (q : ChunkKey). q.y) e, ap (λ (q : ChunkKey). q.z) e)))
    (Decides-and (int_eq a.x b.x) _ (Decides-int_eq a.x b.x) (Decides-and (int_eq a.y b.y) (int_eq a.z b.z) (Decides-int_eq a.y b.y) (Decides-int_eq a.z b.z)))

pub chunk_equiv : IsEquivalence chunk_eq
chunk_equiv = decided chunk_eq chunk_decides

pub chunk_itself : (a : ChunkKey) → chunk_eq a a ≡ true
chunk_itself a = chunk_equiv.refl a

pub other_chunk : (a b : ChunkKey) → a ≢ b → chunk_eq a b ≡ false
other_chunk a b ne = false_from_ne_true _ (λ h. ne ((chunk_decides a b).0 h))

-- a chunk is this one or another
pub by_chunk : (a b : ChunkKey) {P : Type 0} → (a ≡ b → P) → (a ≢ b → P) → P
by_chunk a b {P} f g =
    elim (cases_Bool (chunk_eq a b)) [
      | inl t ↦ f ((chunk_decides a b).0 t)
      | inr e ↦ g (λ s. (let z : false ≡ true = sym e ∙ (chunk_decides a b).1 s in absurd (cc)))
    ]

pub exact_chunks : CmpEqualImpliesEq chunk_cmp
exact_chunks a b h = ap (λ (p : ℤ × (ℤ × ℤ)). record { x = p.0; y = p.1.0; z = p.1.1 })
    (exact_pairs int_cmp (λ (p q : ℤ × ℤ). ordering_then (int_cmp p.0 q.0) (int_cmp p.1 q.1)) exact_signed (exact_pairs int_cmp int_cmp exact_signed exact_signed) (a.x, (a.y, a.z)) (b.x, (b.y, b.z)) h)

pub chunks_total : IsTotalOrder chunk_cmp
chunks_total = then_total (on_total (λ k. k.x) int_cmp_total) (then_total (on_total (λ k. k.y) int_cmp_total) (on_total (λ k. k.z) int_cmp_total))

-- the two tests of chunks agree
pub two_tests : (a b : ChunkKey) → eq_by_cmp chunk_cmp a b ≡ chunk_eq a b
two_tests a b = same_from_decides _ _ ((λ t. exact_chunks a b ((Equal-is (chunk_cmp a b)).0 t)), (λ e. ap (eq_by_cmp chunk_cmp a) (sym e) ∙ (eq_by_cmp_equiv chunks_total).refl a)) (chunk_decides a b)

-- a chunk is among the keys where a look-up finds it
pub among_keys : {X : Type 0} (es : List (ChunkKey × X)) (c : ChunkKey) → list_any (eq_by_cmp chunk_cmp c) (keys_of es) ≡ is_some (lookup (chunk_eq c) es)
among_keys [] c = refl
among_keys (e ∷ es) c = elim (chunk_eq c e.0) as (λ b. eq_by_cmp chunk_cmp c e.0 ≡ b → (eq_by_cmp chunk_cmp c e.0 || list_any (eq_by_cmp chunk_cmp c) (keys_of es)) ≡ is_some (cond b (Some e.1) (lookup (chunk_eq c) es))) [
  | true ↦ λ t. ap (λ b. b || list_any (eq_by_cmp chunk_cmp c) (keys_of es)) t
  | false ↦ λ t. ap (λ b. b || list_any (eq_by_cmp chunk_cmp c) (keys_of es)) t ∙ among_keys es c
] (two_tests c e.0)
