-- A fold over the entries of a map, by a step for which their order does not matter.
use Rattle.std.proofs.Common.{◌≡◌, ℕ, ◌+◌, Bool, true, false, cond, List, [], ◌∷◌, length, refl, sym, ap, ◌∙◌, arith, add-zero, ◌||◌}
use Rattle.std.specs.Prelude.{Option, Some, is_some}
use Rattle.std.specs.List.{AllByRecursion, IsDistinct, fold, list_any}
use Rattle.std.specs.Map.{keys_of}
use Rattle.std.specs.Ordering.{eq_by_cmp, is_eq}
use Rattle.std.specs.declared.cmp.Ordering.{Ordering}
use Rattle.std.specs.declared.cmp.Ordering.TheVariants.{Less, Equal, Greater}
use Rattle.std.specs.FinMap.{empty, entries, find, from_entries, len, len-empty, len-entries, entries-insert, get-entries, get-from_entries}
use Rattle.std.specs.FinMap.Entries.{by_order, is_some-find, put}
use Rattle.std.proofs.lemmas.List.{nil_from_length}
use Rattle.std.proofs.lemmas.Map.Keys.{IsDistinct-head, IsDistinct-tail}
use Rattle.voxel_block.specs.declared.key.BlockKey.{BlockKey}
use Rattle.voxel_block.specs.Keys.{key_cmp, same_key}
use Rattle.voxel_block.proofs.KeyLaws.{keys_total}

-- ---- steps whose order does not matter

module _ {S A : Type 0} (f : S → A → S) where
  -- the order of two steps does not matter
  abbrev pub Commutes : Type 0
  Commutes = (s : S) (a b : A) → f (f s a) b ≡ f (f s b) a

  -- a step that comes first may come last
  pub fold_first : Commutes → (s : S) (a : A) (xs : List A) → fold f (f s a) xs ≡ f (fold f s xs) a
  fold_first c s a [] = refl
  fold_first c s a (x ∷ xs) = ap (λ t. fold f t xs) (c s a x) ∙ fold_first c (f s x) a xs

  -- and so may a list of steps
  pub fold_either : Commutes → (s : S) (xs ys : List A) → fold f (fold f s xs) ys ≡ fold f (fold f s ys) xs
  fold_either c s [] ys = refl
  fold_either c s (x ∷ xs) ys = fold_either c (f s x) xs ys ∙ ap (λ t. fold f t xs) (fold_first c s x ys)

-- ---- entries

pub no_entries : (X : Type 0) → entries (empty {K = BlockKey} {X = X} {R = key_cmp}) ≡ []
no_entries X = nil_from_length _ (sym (len-entries (empty {K = BlockKey} {X = X} {R = key_cmp})) ∙ len-empty key_cmp X)

pub none_among : (k : BlockKey) (ks : List BlockKey) → AllByRecursion (λ y. same_key k y ≡ false) ks → list_any (same_key k) ks ≡ false
none_among k [] a = refl
none_among k (x ∷ ks) a = (λ i. a.0 i || list_any (same_key k) ks) ∙ none_among k ks a.1

module _ {X : Type 0} where
  pub first_apart : (b : Bool) (x : X) (o : Option X) → is_some (cond b (Some x) o) ≡ false → b ≡ false
  first_apart true x o e = absurd (cc)
  first_apart false x o e = refl

  pub later_apart : (b : Bool) (x : X) (o : Option X) → is_some (cond b (Some x) o) ≡ false → is_some o ≡ false
  later_apart true x o e = absurd (cc)
  later_apart false x o e = e

  -- a key of no entry is not among those of their map
  pub is_new : (k : BlockKey) (es : List (BlockKey × X)) → AllByRecursion (λ y. same_key k y ≡ false) (keys_of es) → is_some (find key_cmp k (entries (from_entries {R = key_cmp} es))) ≡ false
  is_new k es a = ap is_some (sym (get-entries (from_entries es) k) ∙ get-from_entries keys_total es k) ∙ is_some-find key_cmp k es ∙ none_among k (keys_of es) a

module _ {S X : Type 0} (f : S → BlockKey × X → S) (c : Commutes f) where
  folded : (o : Ordering) (k : BlockKey) (v : X) (e : BlockKey × X) (es fs : List (BlockKey × X)) (s : S) → is_eq o ≡ false → ((t : S) → fold f t fs ≡ fold f (f t (k, v)) es)
      → fold f s (by_order o ((k, v) ∷ e ∷ es) ((e.0, v) ∷ es) (e ∷ fs)) ≡ fold f (f s (k, v)) (e ∷ es)
  folded Less k v e es fs s apart rest = refl
  folded Equal k v e es fs s apart rest = absurd (cc)
  folded Greater k v e es fs s apart rest = rest (f s e) ∙ ap (λ t. fold f t es) (c s e (k, v))

  fold_put : (k : BlockKey) (v : X) (es : List (BlockKey × X)) (s : S) → is_some (find key_cmp k es) ≡ false → fold f s (put key_cmp k v es) ≡ fold f (f s (k, v)) es
  fold_put k v [] s new = refl
  fold_put k v (e ∷ es) s new = folded (key_cmp k e.0) k v e es (put key_cmp k v es) s
      (first_apart (eq_by_cmp key_cmp k e.0) e.1 (find key_cmp k es) new)
      (λ t. fold_put k v es t (later_apart (eq_by_cmp key_cmp k e.0) e.1 (find key_cmp k es) new))

  -- entries whose keys differ may be gone through in any order: also in that of their map
  pub fold_entries : (es : List (BlockKey × X)) (s : S) → IsDistinct same_key (keys_of es) → fold f s (entries (from_entries {R = key_cmp} es)) ≡ fold f s es
  fold_entries [] s d = ap (fold f s) (no_entries X)
  fold_entries (e ∷ es) s d =
      ap (fold f s) (entries-insert keys_total (from_entries es) e.0 e.1)
      ∙ fold_put e.0 e.1 (entries (from_entries es)) s (is_new e.0 es (IsDistinct-head same_key _ _ d))
      ∙ fold_entries es (f s e) (IsDistinct-tail same_key _ _ d)

-- ---- how many there are

abbrev one_more : {A : Type 0} → ℕ → A → ℕ
one_more n _ = n + 1

count_by_steps : {A : Type 0} (n : ℕ) (xs : List A) → fold one_more n xs ≡ n + length xs
count_by_steps n [] = sym (add-zero n)
count_by_steps n (x ∷ xs) = let rest = count_by_steps (n + 1) xs in omega (arith, rest)

-- the map of entries whose keys differ has as many
pub len_apart : {X : Type 0} (es : List (BlockKey × X)) → IsDistinct same_key (keys_of es) → len (from_entries {R = key_cmp} es) ≡ length es
len_apart es d =
    let a = count_by_steps 0 (entries (from_entries {R = key_cmp} es)) in
    let b = count_by_steps 0 es in
    let e = fold_entries one_more (λ s a b. refl) es 0 d in
    let m = len-entries (from_entries {R = key_cmp} es) in
    omega (arith, a, b, e, m)
