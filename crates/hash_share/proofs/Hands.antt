-- A seat and what its struct has beside.
use Rattle.std.proofs.Common.{◌≡◌, ℕ, zero, suc, ◌<◌, List, [], ◌∷◌, ◌++◌, length, map, Bool, true, false, eqb, cond, inl, inr, refl, sym, ap, ◌∙◌, arith, subst}
use Rattle.std.specs.Prelude.{◌⊎◌}
use Rattle.std.proofs.lemmas.Bool.{eqb-true, false≢true}
use Rattle.spatial_hash.specs.Table.{Table}
use Rattle.hash_share.specs.Steps.{Held, both}
use Rattle.hash_share.specs.Spares.{AllBelow, rest_of}
use Rattle.hash_share.specs.Touching.{IsTied}

abbrev first-of : ℕ → List ℕ → ℕ
first-of d [] = d
first-of d (x ∷ xs) = x

top-of : (ns : List (ℕ × ℕ)) (n : ℕ) (r : List ℕ) → map (λ p. p.0) ns ≡ n ∷ r → (y : ℕ) × (ps : List (ℕ × ℕ)) × (ns ≡ (n, y) ∷ ps)
top-of [] n r e = absurd (let l : 0 ≡ suc (length r) = ap length e in omega arith)
top-of (p ∷ ps) n r e = let q : p.0 ≡ n = ap (first-of 0) e in (p.1, ps, ap (λ (x : ℕ). (x, p.1) ∷ ps) q)

pub tied_top : (start : Table) (me : Held) (spares : List ℕ) (marked : Bool) (n : ℕ) → IsTied start me spares marked → spares ≡ n ∷ rest_of spares → (n < start.nodes) × ((y : ℕ) × (ps : List (ℕ × ℕ)) × (me.0.nodes ≡ (n, y) ∷ ps))
tied_top start me spares marked n t is = ((subst (AllBelow start.nodes) is t.low).0, top-of me.0.nodes n (rest_of spares) (t.nodes ∙ is))

none-of : (ns : List (ℕ × ℕ)) → map (λ p. p.0) ns ≡ [] → ns ≡ []
none-of [] e = refl
none-of (p ∷ ps) e = absurd (let l : suc (length (map (λ p. p.0) ps)) ≡ 0 = ap length e in omega arith)

pub tied_none : (start : Table) (me : Held) (spares : List ℕ) (marked : Bool) → IsTied start me spares marked → spares ≡ [] → me.0.nodes ≡ []
tied_none start me spares marked t is = none-of me.0.nodes (t.nodes ∙ is)

-- ---- two seats as one

all-below : (n : ℕ) (xs ys : List ℕ) → AllBelow n xs → AllBelow n ys → AllBelow n (xs ++ ys)
all-below n [] ys a b = b
all-below n (x ∷ xs) ys a b = (a.0, all-below n xs ys a.1 b)

firsts-both : (xs ys : List (ℕ × ℕ)) → map (λ p. p.0) (xs ++ ys) ≡ map (λ p. p.0) xs ++ map (λ p. p.0) ys
firsts-both [] ys = refl
firsts-both (x ∷ xs) ys = ap (λ (l : List ℕ). x.0 ∷ l) (firsts-both xs ys)

some-mark : (a b : ℕ) (t : Bool) → (0 < a) ⊎ (0 < b) → (t ≡ true → a ≡ 0) → (t ≡ false → 0 < a) → 0 < cond t b a
some-mark a b true (inl p) f g = let z = f refl in absurd (omega arith)
some-mark a b true (inr p) f g = p
some-mark a b false h f g = g refl

both-zero : (a b : ℕ) (t : Bool) → a ≡ 0 → b ≡ 0 → ◌≡◌ {A = ℕ} (cond t b a) 0
both-zero a b true p q = q
both-zero a b false p q = p

above-zero : (a : ℕ) → eqb a 0 ≡ false → 0 < a
above-zero zero e = absurd (false≢true (sym e))
above-zero (suc a) e = omega arith

pub tied_both : (m n : Held) (xs ys : List ℕ) (a b c : Bool) → IsTied m.0.start m xs a → IsTied n.0.start n ys b → m.0.start ≡ n.0.start → (c ≡ true → (a ≡ true) ⊎ (b ≡ true)) → (c ≡ false → (a ≡ false) × (b ≡ false))
    → IsTied m.0.start (both m.0 n.0, m.1) (ys ++ xs) c
tied_both m n xs ys a b c t u same one no-one = record {
  slots = t.slots;
  part = (let p : 0 < m.0.part = t.part in omega arith);
  begun = refl;
  wide = t.wide;
  nodes = firsts-both n.0.nodes m.0.nodes ∙ ap (λ (l : List ℕ). l ++ map (λ p. p.0) m.0.nodes) u.nodes ∙ ap (λ (l : List ℕ). ys ++ l) t.nodes;
  low = all-below m.0.start.nodes ys xs (subst (λ (x : Table). AllBelow x.nodes ys) (sym same) u.low) t.low;
  has_mark = λ e. some-mark m.0.mark n.0.mark (eqb m.0.mark 0) (elim (one e) [ inl p ↦ inl (t.has_mark p) | inr p ↦ inr (u.has_mark p) ]) (eqb-true m.0.mark 0) (above-zero m.0.mark);
  no_mark = λ e. both-zero m.0.mark n.0.mark (eqb m.0.mark 0) (t.no_mark (no-one e).0) (u.no_mark (no-one e).1);
}
