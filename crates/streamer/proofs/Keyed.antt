-- Options, results, and maps from which one key is removed.
use Rattle.std.proofs.Common.{◌≡◌, ℕ, ◌+◌, ◌-◌, zero, suc, true, false, cond, refl, sym, ap, ◌∙◌, arith}
use Rattle.std.specs.Prelude.{Option, Some, None, is_some}
use Rattle.std.specs.Result.{OnOk, is_err}
use Rattle.std.specs.declared.result.Result.{Result}
use Rattle.std.specs.declared.result.Result.TheVariants.{Ok, Err}
use Rattle.std.specs.FinMap.{FinMap, contains_key, remove, len, empty_of_len, get-empty, len-remove}
use Rattle.voxel_block.specs.declared.key.BlockKey.{BlockKey}
use Rattle.voxel_block.specs.Keys.{key_cmp}
use Rattle.voxel_block.proofs.KeyLaws.{keys_total}

pub none_of : {X : Type 0} (o : Option X) → is_some o ≡ false → o ≡ None
none_of None e = refl
none_of (Some x) e = absurd (cc)

pub some_of : {X : Type 0} (o : Option X) → is_some o ≡ true → (x : X) × (o ≡ Some x)
some_of None e = absurd (cc)
some_of (Some x) e = (x, refl)

pub the_same : {X : Type 0} (x y : X) → Some x ≡ Some y → x ≡ y
the_same x y e = cc

-- what holds where there is a value
pub when_ok : {T E : Type 0} (P : Type 0) (r : Result T E) → is_err r ≡ false → OnOk r P → P
when_ok P (Ok x) e p = p
when_ok P (Err y) e p = absurd (cc)

module _ {X : Type 0} where
  pub len_gone : (m : FinMap key_cmp X) (k : BlockKey) → contains_key m k ≡ true → len (remove m k) + 1 ≡ len m
  len_gone m k e = by (len m) refl
    where
      by : (n : ℕ) → len m ≡ n → len (remove m k) + 1 ≡ len m
      by zero z = (let h : false ≡ true = ap is_some (sym (get-empty key_cmp k)) ∙ ap (λ u. contains_key u k) (sym (empty_of_len m z)) ∙ e in absurd (cc))
      by (suc n) z =
          let l : len (remove m k) ≡ len m - 1 = len-remove keys_total m k ∙ ap (λ b. cond b (len m - 1) (len m)) e in
          omega (arith, l, z)
