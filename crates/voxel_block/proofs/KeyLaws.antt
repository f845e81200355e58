-- Keys that compare alike are one, and a list of entries read as a map.
use Rattle.std.proofs.Common.{◌≡◌, ◌≢◌, ◌+◌, ℤ, inl, inr, refl, sym, ap, ◌∙◌, List, [], ◌∷◌, length, true, false, cond}
use Rattle.std.specs.Prelude.{Some, None}
use Rattle.std.specs.Ordering.{int_cmp, ordering_then}
use Rattle.std.specs.Cmp.{IsTotalOrder, eq_by_cmp_equiv, Equal-is}
use Rattle.std.specs.List.{AllByRecursion}
use Rattle.std.specs.List.Sorted.{IsStrictlySortedBy}
use Rattle.std.specs.declared.cmp.Ordering.TheVariants.{Less}
use Rattle.std.specs.BTreeMap.{is_at}
use Rattle.std.specs.Map.{lookup, keys_of}
use Rattle.std.specs.FinMap.{FinMap, contains_key, empty, entries, keys, len, len-insert, from_entries, get, find, put, insert, remove, same_map, get-from_entries, get-insert, get-remove, entries-insert, len-empty, len-entries}
use Rattle.std.specs.FinMap.Entries.{by_order}
use Rattle.std.proofs.lemmas.Bool.{cases_Bool, false_from_ne_true}
use Rattle.std.proofs.lemmas.Map.Lookups.{CmpEqualImpliesEq, exact_pairs, exact_signed}
use Rattle.std.proofs.lemmas.Map.Keys.{sorted_head, sorted_tail}
use Rattle.std.proofs.lemmas.Cmp.{on_total, then_total, int_cmp_total}
use Rattle.std.proofs.lemmas.List.{nil_from_length}
use Rattle.voxel_block.specs.declared.key.BlockKey.{BlockKey}
use Rattle.voxel_block.specs.Keys.{key_cmp, same_key}

-- keys that compare alike are one
pub exact_keys : CmpEqualImpliesEq key_cmp
exact_keys a b h = ap (λ (p : ℤ × (ℤ × ℤ)). record { x = p.0; y = p.1.0; z = p.1.1 })
    (exact_pairs int_cmp (λ (p q : ℤ × ℤ). ordering_then (int_cmp p.0 q.0) (int_cmp p.1 q.1)) exact_signed (exact_pairs int_cmp int_cmp exact_signed exact_signed) (a.x, (a.y, a.z)) (b.x, (b.y, b.z)) h)

-- the test says whether two keys are one
pub same_key_is : (a b : BlockKey) → same_key a b ≡ true → a ≡ b
same_key_is a b h = exact_keys a b ((Equal-is (key_cmp a b)).0 h)

-- any two keys are in order
pub keys_total : IsTotalOrder key_cmp
keys_total = then_total (on_total (λ k. k.x) int_cmp_total) (then_total (on_total (λ k. k.y) int_cmp_total) (on_total (λ k. k.z) int_cmp_total))

pub key_itself : (a : BlockKey) → same_key a a ≡ true
key_itself a = (eq_by_cmp_equiv keys_total).refl a

pub other_key : (a b : BlockKey) → a ≢ b → same_key a b ≡ false
other_key a b other = false_from_ne_true _ (λ h. other (same_key_is a b h))

-- a key is this one or another
pub by_key : (q k : BlockKey) {P : Type 0} → (q ≡ k → P) → (q ≢ k → P) → P
by_key q k {P} f g =
    elim (cases_Bool (same_key q k)) [
      | inl t ↦ f (same_key_is q k t)
      | inr e ↦ g (λ s. (let z : false ≡ true = sym e ∙ ap (same_key q) (sym s) ∙ key_itself q in absurd (cc)))
    ]

module _ {X : Type 0} where
  -- the two ways to look a key up in a list of entries agree
  pub find_key : (es : List (BlockKey × X)) (q : BlockKey) → find key_cmp q es ≡ lookup (is_at (key_cmp q)) es
  find_key [] q = refl
  find_key (e ∷ es) q = ap (cond (is_at (key_cmp q) e.0) (Some e.1)) (find_key es q)

  -- the map of a tree's entries has at a key what the tree has there
  pub get_key : (es : List (BlockKey × X)) (q : BlockKey) → get (from_entries {R = key_cmp} es) q ≡ lookup (is_at (key_cmp q)) es
  get_key es q = get-from_entries keys_total es q ∙ find_key es q

  -- a tree into which an entry was put
  pub one_put : (es fs : List (BlockKey × X)) (k : BlockKey) (v : X) → ((q : BlockKey) → lookup (is_at (key_cmp q)) fs ≡ cond (is_at (key_cmp k) q) (Some v) (lookup (is_at (key_cmp q)) es))
      → from_entries {R = key_cmp} fs ≡ insert (from_entries es) k v
  one_put es fs k v h = same_map keys_total exact_keys _ _ (λ q. get_key fs q ∙ h q ∙ ap (λ b. cond b (Some v) (lookup (is_at (key_cmp q)) es)) ((eq_by_cmp_equiv keys_total).symm k q)
      ∙ sym (get-insert keys_total (from_entries es) k v q ∙ ap (cond (is_at (key_cmp q) k) (Some v)) (get_key es q)))

  -- a tree from which an entry was taken
  pub one_removed : (es fs : List (BlockKey × X)) (k : BlockKey) → ((q : BlockKey) → lookup (is_at (key_cmp q)) fs ≡ cond (is_at (key_cmp k) q) None (lookup (is_at (key_cmp q)) es))
      → from_entries {R = key_cmp} fs ≡ remove (from_entries es) k
  one_removed es fs k h = same_map keys_total exact_keys _ _ (λ q. get_key fs q ∙ h q ∙ ap (λ b. cond b None (lookup (is_at (key_cmp q)) es)) ((eq_by_cmp_equiv keys_total).symm k q)
      ∙ sym (get-remove keys_total (from_entries es) k q ∙ ap (cond (is_at (key_cmp q) k) None) (get_key es q)))

  -- an entry below all others goes in front
  put_first : (k : BlockKey) (v : X) (es : List (BlockKey × X)) → AllByRecursion (λ y. key_cmp k y ≡ Less) (keys_of es) → put key_cmp k v es ≡ (k, v) ∷ es
  put_first k v [] below = refl
  put_first k v (e ∷ es) below = ap (λ r. by_order r ((k, v) ∷ e ∷ es) ((e.0, v) ∷ es) (e ∷ put key_cmp k v es)) below.0

  no_entries : entries (empty {X = X} {R = key_cmp}) ≡ []
  no_entries = nil_from_length _ (sym (len-entries (empty {X = X} {R = key_cmp})) ∙ len-empty key_cmp X)

  -- the entries of a map that was made of entries in order are these
  pub entries_of_ordered : (es : List (BlockKey × X)) → IsStrictlySortedBy key_cmp (keys_of es) → entries (from_entries {R = key_cmp} es) ≡ es
  entries_of_ordered [] ordered = no_entries
  entries_of_ordered (e ∷ es) ordered =
      entries-insert keys_total (from_entries es) e.0 e.1
      ∙ ap (put key_cmp e.0 e.1) (entries_of_ordered es (sorted_tail key_cmp e.0 (keys_of es) ordered))
      ∙ put_first e.0 e.1 es (sorted_head key_cmp e.0 (keys_of es) ordered)

  pub keys_of_ordered : (es : List (BlockKey × X)) → IsStrictlySortedBy key_cmp (keys_of es) → keys (from_entries {R = key_cmp} es) ≡ keys_of es
  keys_of_ordered es ordered = ap keys_of (entries_of_ordered es ordered)

  pub len_of_ordered : (es : List (BlockKey × X)) → IsStrictlySortedBy key_cmp (keys_of es) → len (from_entries {R = key_cmp} es) ≡ length es
  len_of_ordered es ordered = len-entries (from_entries {R = key_cmp} es) ∙ ap length (entries_of_ordered es ordered)

-- ---- maps of which one key changes

module _ {X : Type 0} where
  pub put_here : (m : FinMap key_cmp X) (k : BlockKey) (v : X) → get (insert m k v) k ≡ Some v
  put_here m k v = get-insert keys_total m k v k ∙ ap (λ b. cond b (Some v) (get m k)) (key_itself k)

  pub put_elsewhere : (m : FinMap key_cmp X) (k q : BlockKey) (v : X) → q ≢ k → get (insert m k v) q ≡ get m q
  put_elsewhere m k q v other = get-insert keys_total m k v q ∙ ap (λ b. cond b (Some v) (get m q)) (other_key q k other)

  pub gone_here : (m : FinMap key_cmp X) (k : BlockKey) → get (remove m k) k ≡ None
  gone_here m k = get-remove keys_total m k k ∙ ap (λ b. cond b None (get m k)) (key_itself k)

  pub gone_elsewhere : (m : FinMap key_cmp X) (k q : BlockKey) → q ≢ k → get (remove m k) q ≡ get m q
  gone_elsewhere m k q other = get-remove keys_total m k q ∙ ap (λ b. cond b None (get m q)) (other_key q k other)

  pub len_put : (m : FinMap key_cmp X) (k : BlockKey) (v : X) → contains_key m k ≡ false → len (insert m k v) ≡ len m + 1
  len_put m k v new = len-insert keys_total m k v ∙ ap (λ b. cond b (len m) (len m + 1)) new
