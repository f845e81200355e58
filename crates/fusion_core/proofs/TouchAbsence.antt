-- What a seat knows that has seen a walk to its end.
use Rattle.std.proofs.Common.{◌≡◌, ℕ, ◌+◌, ◌-◌, ◌*◌, ◌<◌, ◌≤◌, List, get_or, ap, ◌∙◌, arith, inl, inr, subst}
use Rattle.std.specs.Prelude.{Some}
use Rattle.std.proofs.lemmas.Bool.{cases_eq, cases_lt}
use Rattle.voxel_block.specs.Words.{word_of}
use Rattle.spatial_hash.specs.Hash.{home, bucket_of}
use Rattle.spatial_hash.specs.Table.{Table, entries_in, key_word}
use Rattle.spatial_hash.specs.Walk.{entry_of, first_with, walk_of}
use Rattle.spatial_hash.specs.Sound.{IsSound}
use Rattle.spatial_hash.proofs.Homes.{home_low, home_is}
use Rattle.spatial_hash.proofs.Places.{is_linked}
use Rattle.fusion_core.specs.TouchCounts.{pairs_at}
use Rattle.fusion_core.specs.TouchWords.{shown, drawn, IsOnWalk}
use Rattle.fusion_core.specs.TouchRule.{IsWalked, IsDealt, owners_in}
use Rattle.fusion_core.specs.TouchLaws.{IsAbsent, TouchedIsFound, WalkEndTells}
use Rattle.fusion_core.proofs.TouchGrowing.{led_node}
use Rattle.fusion_core.proofs.TouchSeeing.{Nowhere, nowhere_end}
use Rattle.fusion_core.proofs.TouchFinding.{found}

-- a key of the start is on a walk
pub start_walk : (start : Table) (ws : List ℕ) (owners : ℕ → ℕ) (d : ℕ) → IsSound start → IsWalked start ws → IsDealt start ws owners → d < entries_in start → 0 < key_word start d → IsOnWalk (shown start ws) d
start_walk start ws owners d s w dealt low some =
    elim (cases_lt d (4 * start.buckets)) [
      | inl lt ↦ inl lt
      | inr ge ↦ (
          let n : ℕ = d - 4 * start.buckets in
          let split : d ≡ 4 * start.buckets + (d - 4 * start.buckets) = omega arith in
          let is : key_word start d ≡ key_word start (4 * start.buckets + (d - 4 * start.buckets)) = ap (key_word start) split in
          let lown : d - 4 * start.buckets < start.nodes = omega arith in
          let l : d - 4 * start.buckets < start.linked = is_linked start (d - 4 * start.buckets) s lown (omega arith) in
          let g : start.linked ≤ drawn start ws = dealt.grown in
          let free : owners (d - 4 * start.buckets) ≡ 0 = elim (cases_eq (owners (d - 4 * start.buckets)) 0) [ inl z ↦ z | inr ne ↦ (let q : start.linked ≤ d - 4 * start.buckets = (dealt.spare (d - 4 * start.buckets) (omega arith)).2 in absurd (omega arith)) ] in
          let r = dealt.walked (d - 4 * start.buckets) lown (omega arith) free in
          inr (d - 4 * start.buckets, split, led_node (shown start ws) (home start.buckets (get_or ws (4 * start.buckets + (d - 4 * start.buckets)) 0)) (d - 4 * start.buckets) r.1.0 (home_low start.buckets _ s.some_buckets) r.1.1))
    ]

pub absent_is : (start : Table) (ws : List ℕ) (owners : ℕ → ℕ) (k : ℕ) (ps : List (ℕ × ℕ)) → IsSound start → IsWalked start ws → IsDealt start ws owners → 0 < k → Nowhere start ws k
    → ((e : ℕ) → 0 < pairs_at k e ps → IsOnWalk (shown start ws) e × (get_or ws e 0 ≡ k)) → IsAbsent start ps k
absent_is start ws owners k ps s w dealt some none there = (
  (λ e lt q. none e (start_walk start ws owners e s w dealt lt (omega arith)) (w.kept e lt (omega arith) ∙ q)),
  λ e. elim (cases_eq (pairs_at k e ps) 0) [ inl z ↦ z | inr ne ↦ (let t = there e (omega arith) in absurd (none e t.0 t.1)) ],
)

pub walk_end_tells : WalkEndTells
walk_end_tells start seats ws vs o i v me k j some next z =
    let f = o.each i v me in
    let none = nowhere_end start ws v.seen (owners_in vs) k some o.walks o.dealt f.seen (home_low start.buckets k o.sound.some_buckets) next.1.0 j next.0 next.1.1 z in
    absent_is start ws (owners_in vs) k v.touched o.sound o.walks o.dealt some none (λ e h. (let t = f.touched k e h in (t.2, t.3)))

pub touched_is_found : TouchedIsFound
unfolding entry_of
touched_is_found start seats ws vs o i v me k e back h =
    let f = (o.each i v me).touched (word_of k) e h in
    let same : home start.buckets (word_of k) ≡ bucket_of start.buckets k = home_is start.buckets (word_of k) k back in
    let low : home start.buckets (word_of k) < start.buckets = home_low start.buckets (word_of k) o.sound.some_buckets in
    let P : ℕ → Type 0 = λ b. first_with (shown start ws) (word_of k) (walk_of (shown start ws) b) ≡ Some e in
    subst P same (found start ws o.walks (word_of k) f.0 (owners_in vs) o.dealt low e f.2 f.3)
