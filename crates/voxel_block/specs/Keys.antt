-- The order of keys, and their code.
use Rattle.std.specs.Prelude.{ℤ, Bool, refl}
use Rattle.std.specs.Coded.{Coded, code_by, coded×, coded_ℤ}
use Rattle.std.specs.declared.cmp.Ordering.{Ordering}
use Rattle.std.specs.Ordering.{eq_by_cmp, int_cmp, ordering_then}
use Rattle.voxel_block.specs.declared.key.BlockKey.{BlockKey}

-- keys are ordered by x, then y, then z
abbrev pub key_cmp : BlockKey → BlockKey → Ordering
key_cmp a b = ordering_then (int_cmp a.x b.x) (ordering_then (int_cmp a.y b.y) (int_cmp a.z b.z))

-- whether two keys are the same
abbrev pub same_key : BlockKey → BlockKey → Bool
same_key = eq_by_cmp key_cmp

-- a key is stored as its three coordinates
abbrev pub coded_key : Coded BlockKey
coded_key = code_by (ℤ × (ℤ × ℤ)) (coded× coded_ℤ (coded× coded_ℤ coded_ℤ)) (λ k. (k.x, (k.y, k.z))) (λ p. record { x = p.0; y = p.1.0; z = p.1.1 }) (λ _. refl)
