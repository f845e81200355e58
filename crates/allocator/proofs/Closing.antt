-- The table of a round whose share is closed.
use Rattle.std.proofs.Common.{◌≡◌, ℕ, ◌+◌, ◌-◌, ◌^◌, ◌≤◌, Bool, true, false, cond, not, ◌||◌, List, ◌++◌, length, refl, sym, ap, ◌∙◌, subst, arith, inl, inr, ◌⊎◌}
use Rattle.std.proofs.Math.Bool.{or-true}
use Rattle.std.specs.Prelude.{Some, None, Option, Contains, is_some}
use Rattle.std.specs.Cmp.{eq_by_cmp_equiv}
use Rattle.std.specs.List.{list_any}
use Rattle.std.specs.FinMap.{contains_key, contains_key-keys, get, get-retain_keys, keys, len, len-entries, retain_keys}
use Rattle.std.proofs.lemmas.List.{length-append, length-map}
use Rattle.std.proofs.lemmas.List.Folds.{list_any-append}
use Rattle.std.proofs.lemmas.Map.Made.{length-le_from_is_member}
use Rattle.std.proofs.lemmas.Map.Views.{Contains-from_any, list_any-from_Contains}
use Rattle.voxel_block.specs.declared.key.BlockKey.{BlockKey}
use Rattle.voxel_block.specs.Keys.{same_key}
use Rattle.voxel_block.specs.Words.{key_of, word_of}
use Rattle.voxel_block.proofs.DistinctKeys.{distinct_keys}
use Rattle.voxel_block.proofs.KeyLaws.{exact_keys, keys_total, same_key_is}
use Rattle.spatial_hash.specs.Contents.{contents}
use Rattle.spatial_hash.specs.Table.{Table}
use Rattle.hash_share.specs.declared.view.View.{View}
use Rattle.hash_share.specs.Seats.{IsNewKey}
use Rattle.hash_share.specs.Steps.{HasPair}
use Rattle.allocator.specs.Rounds.{Cells, HasNewKeys, KeepsCells, Touches}
use Rattle.allocator.specs.Work.{TouchedAll, TouchedOnly}

some_is : (a b : BlockKey) → Some a ≡ Some b → a ≡ b
some_is a b e = cc

no_some : (c : ℕ) → None ≡ Some c → ⊥
no_some c e = absurd (cc)

neither : (t : Bool) → ◌≡◌ {A = Option ℕ} (cond t None None) None
neither true = refl
neither false = refl

count_keys : (m : Cells) → len m ≡ length (keys m)
count_keys m = len-entries m ∙ sym (length-map _ _)

module _ (start closed : Table) (v : View) (ks : List BlockKey) (shared : (k : BlockKey) (c : ℕ) → get (contents start) k ≡ Some c → get (contents closed) k ≡ Some c)
    (only : (k : BlockKey) (c : ℕ) → get (contents closed) k ≡ Some c → (get (contents start) k ≡ Some c) ⊎ IsNewKey start v k c) (among : TouchedOnly ks v) where
  new_in_list : (k : BlockKey) (c : ℕ) → IsNewKey start v k c → list_any (same_key k) ks ≡ true
  new_in_list k c n =
      let w = among (word_of k) n.entry n.touched in
      let same : k ≡ w.key = some_is k w.key (sym n.named ∙ w.named) in
      list_any-from_Contains (eq_by_cmp_equiv keys_total) k ks (subst (Contains ks) (sym same) w.among)

  -- the cells
  pub keeps_cells : KeepsCells (contents start) (contents closed)
  keeps_cells = record {
    old = shared;
    new = λ b c none got. elim (only b c got) [
      | inl old ↦ absurd (no_some c (sym none ∙ old))
      | inr new ↦ new.cell
    ];
  }

  -- the keys, where all of the list were touched
  module _ (touched : (k : BlockKey) (e : ℕ) → key_of (word_of k) ≡ Some k → HasPair (word_of k) e v → get (contents start) k ≡ None → get (contents closed) k ≡ Some (2 ^ 32 - 1)) (all : TouchedAll ks v) where
    pub touches_list : Touches (contents start) ks (contents closed)
    touches_list b = by (get (contents closed) b) refl
      where
        nothing : (o : Option ℕ) → get (contents start) b ≡ o → (l : Bool) → list_any (same_key b) ks ≡ l → get (contents closed) b ≡ None → (contains_key (contents start) b || list_any (same_key b) ks) ≡ false
        nothing (Some c) f l g e = absurd (no_some c (sym e ∙ shared b c f))
        nothing None f true g e = (let t = all b (Contains-from_any same_key_is b ks g) in absurd (no_some (2 ^ 32 - 1) (sym e ∙ touched b t.entry t.named t.pair f)))
        nothing None f false g e = ap (λ (o : Option ℕ). is_some o || list_any (same_key b) ks) f ∙ g

        by : (o : Option ℕ) → get (contents closed) b ≡ o → contains_key (contents closed) b ≡ (contains_key (contents start) b || list_any (same_key b) ks)
        by (Some c) e = ap is_some e ∙ elim (only b c e) [
          | inl old ↦ sym (ap (λ (o : Option ℕ). is_some o || list_any (same_key b) ks) old)
          | inr new ↦ sym (ap (λ (x : Bool). contains_key (contents start) b || x) (new_in_list b c new) ∙ or-true (contains_key (contents start) b))
        ]
        by None e = ap is_some e ∙ sym (nothing (get (contents start) b) refl (list_any (same_key b) ks) refl e)

  -- the keys that the shared table lacks
  abbrev fresh : Cells
  fresh = retain_keys (contents closed) (λ k. not (contains_key (contents start) k))

  got_fresh : (b : BlockKey) → get fresh b ≡ cond (not (contains_key (contents start) b)) (get (contents closed) b) None
  got_fresh b = get-retain_keys (contents closed) (λ k. not (contains_key (contents start) k)) b (λ x e. ap (λ (k : BlockKey). not (contains_key (contents start) k)) (sym (exact_keys b x e)))

  fresh_new : (b : BlockKey) → contains_key fresh b ≡ true → (contains_key (contents start) b ≡ false) × (list_any (same_key b) ks ≡ true)
  fresh_new b has = by (get (contents start) b) refl (get (contents closed) b) refl
    where
      by : (o : Option ℕ) → get (contents start) b ≡ o → (p : Option ℕ) → get (contents closed) b ≡ p → (contains_key (contents start) b ≡ false) × (list_any (same_key b) ks ≡ true)
      by (Some c) f p g = absurd (let z : false ≡ true = sym (ap is_some (got_fresh b ∙ ap (λ (o : Option ℕ). cond (not (is_some o)) (get (contents closed) b) None) f)) ∙ has in cc)
      by None f None g = absurd (let z : false ≡ true = sym (ap is_some (got_fresh b ∙ ap (λ (o : Option ℕ). cond (not (contains_key (contents start) b)) o None) g ∙ neither (not (contains_key (contents start) b)))) ∙ has in cc)
      by None f (Some c) g = (
        ap is_some f,
        elim (only b c g) [
          | inl old ↦ absurd (no_some c (sym f ∙ old))
          | inr new ↦ new_in_list b c new
        ],
      )

  all_keys : (b : BlockKey) → list_any (same_key b) (keys (contents closed)) ≡ true → list_any (same_key b) (keys (contents start) ++ keys fresh) ≡ true
  all_keys b has = list_any-append (same_key b) (keys (contents start)) (keys fresh) ∙ by (contains_key (contents start) b) refl
    where
      by : (t : Bool) → contains_key (contents start) b ≡ t → (list_any (same_key b) (keys (contents start)) || list_any (same_key b) (keys fresh)) ≡ true
      by true f = ap (λ (x : Bool). x || list_any (same_key b) (keys fresh)) (sym (contains_key-keys (contents start) b) ∙ f)
      by false f =
          let in_fresh : contains_key fresh b ≡ true = ap is_some (got_fresh b ∙ ap (λ (t : Bool). cond (not t) (get (contents closed) b) None) f) ∙ contains_key-keys (contents closed) b ∙ has in
          ap (λ (x : Bool). list_any (same_key b) (keys (contents start)) || x) (sym (contains_key-keys fresh b) ∙ in_fresh) ∙ or-true (list_any (same_key b) (keys (contents start)))

  pub new_keys : (nodes linked seats : ℕ) → len (contents start) + (nodes - linked) ≤ len (contents closed) + seats → HasNewKeys (contents start) ks (nodes - linked - seats)
  new_keys nodes linked seats count = record {
    keys = fresh;
    many =
        (let most : length (keys (contents closed)) ≤ length (keys (contents start) ++ keys fresh) = length-le_from_is_member (eq_by_cmp_equiv keys_total) (keys (contents closed)) (keys (contents start) ++ keys fresh) (distinct_keys (contents closed)) all_keys in
        let sum : length (keys (contents start) ++ keys fresh) ≡ length (keys (contents start)) + length (keys fresh) = length-append (keys (contents start)) (keys fresh) in
        let a = count_keys (contents start) in
        let b = count_keys (contents closed) in
        let c = count_keys fresh in
        omega (arith, most, sum, a, b, c, count));
    new = λ b has. fresh_new b has;
  }
