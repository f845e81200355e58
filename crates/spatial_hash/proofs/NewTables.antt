-- A table with no key is sound, and its map is empty.
use Rattle.std.proofs.Common.{◌≡◌, ℕ, suc, ◌+◌, ◌-◌, ◌*◌, ◌^◌, ◌<◌, ◌≤◌, List, [], length, refl, sym, ◌∙◌, arith, inl, inr, get_or}
use Rattle.std.specs.Prelude.{replicate}
use Rattle.std.proofs.lemmas.Bool.{cases_lt}
use Rattle.std.proofs.lemmas.List.{get_or-replicate, get_or_past, length-replicate}
use Rattle.spatial_hash.specs.Table.{empty_table}
use Rattle.spatial_hash.specs.Sound.{IsSound}
use Rattle.std.specs.FinMap.{same_map, get-empty, empty as no_keys}
use Rattle.voxel_block.specs.Keys.{key_cmp}
use Rattle.voxel_block.proofs.KeyLaws.{exact_keys, keys_total}
use Rattle.spatial_hash.specs.Contents.{contents}
use Rattle.spatial_hash.proofs.Maps.{get_none}

abbrev pub blank : ℕ → List ℕ
blank n = replicate n 0

pub zeros : (n i : ℕ) → get_or (blank n) i 0 ≡ 0
zeros n i = elim (cases_lt i n) [ inl h ↦ get_or-replicate n i 0 0 h | inr h ↦ get_or_past (blank n) i 0 (let e : length (blank n) ≡ n = length-replicate n 0 in omega arith) ]

pub empty_sound : (b n : ℕ) → 0 < b → b ≤ 65536 → n ≤ 1000000 → IsSound (empty_table b n)
empty_sound b n p q r =
    let z : (i : ℕ) → get_or (blank (5 * b + 2 * n)) i 0 ≡ 0 = zeros (5 * b + 2 * n) in
    record {
      some_buckets = p;
      few_buckets = q;
      few_nodes = r;
      few_linked = omega arith;
      wide = length-replicate (5 * b + 2 * n) 0;
      long = length-replicate (4 * b + n) (2 ^ 32 - 1);
      named = λ e _. let x : get_or (blank (5 * b + 2 * n)) e 0 ≡ 0 = z e in omega arith;
      differ = λ d e _ _ f _. let x : get_or (blank (5 * b + 2 * n)) d 0 ≡ 0 = z d in absurd (omega arith);
      at_home = λ h i _ _ f. let x : get_or (blank (5 * b + 2 * n)) (4 * h + i) 0 ≡ 0 = z (4 * h + i) in absurd (omega arith);
      prefix = λ h i _ _ f. let x : get_or (blank (5 * b + 2 * n)) (4 * h + suc i) 0 ≡ 0 = z (4 * h + suc i) in absurd (omega arith);
      full = λ h _ f. let x : get_or (blank (5 * b + 2 * n)) (4 * b + n + h) 0 ≡ 0 = z (4 * b + n + h) in absurd (omega arith);
      ends = λ h _. (h, record { over = []; leads = refl; none = z (4 * b + n + h); few = omega arith });
      placed = λ m l _. absurd (omega arith);
      reached = λ m l _. absurd (omega arith);
      hole = λ m h. absurd h;
      free = λ m _ _. (z (4 * b + m), z (4 * b + n + (b + m)));
    }

pub no_contents : (b n : ℕ) → contents (empty_table b n) ≡ no_keys
no_contents b n =
    same_map keys_total exact_keys (contents (empty_table b n)) no_keys (λ q.
    get_none (empty_table b n) q (λ d _ e. (let z : get_or (blank (5 * b + 2 * n)) d 0 ≡ 0 = zeros (5 * b + 2 * n) d in absurd (omega arith))) ∙ sym (get-empty key_cmp q))
