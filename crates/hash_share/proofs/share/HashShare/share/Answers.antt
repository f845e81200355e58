use Rattle.std.proofs.Common.{◌≡◌, ℕ, ◌+◌, List, [], ◌∷◌, ◌++◌, length, length-append, subst, sym, ap, ◌∙◌}
use Rattle.spatial_hash.specs.Table.{Table, empty_table}
use Rattle.spatial_hash.specs.Sound.{IsSound}
use Rattle.fusion_core.specs.TouchWords.{counter_at}
use Rattle.hash_share.specs.Rule.{IsShared}
use Rattle.hash_share.specs.Seats.{HasCells}
use Rattle.hash_share.specs.Steps.{first_view}
use Rattle.hash_share.proofs.Moves.{opens}
use Rattle.hash_share.proofs.share.HashShare.share.Goals as goal

pub of_words-requires : goal.of_words-requires
of_words-requires c =
    let t : Table = c.args.table.now in
    let F : Table → List ℕ → Type 0 = λ u ws. IsShared u c.args.seats ws (first_view u c.args.seats ∷ []) in
    let words : c.as_slice.result.now ≡ t.words ++ t.linked ∷ [] = c.as_slice.ensures.value ∙ c.in_ok-words.ensures in
    subst (λ (u : Table). F u c.as_slice.result.now) (sym c.of.ensures) (subst (F t) (sym words) (opens t c.sizes_of-buckets.ensures.sound c.args.seats c.requires.0 c.requires.1))

pub invariant_of-walks : goal.invariant_of-walks
invariant_of-walks c =
    let t : Table = c.args.table.now in
    let e = c.in_ok-table.ensures in
    let start : c.in_ok-table.table.shared.key.start.value ≡ t = ap (λ k. k.start.value) e.5 ∙ c.of.ensures in
    let words : c.as_slice.result.now ≡ t.words ++ t.linked ∷ [] = c.as_slice.ensures.value ∙ c.in_ok-words.ensures in
    let wide : length t.words ≡ counter_at t = c.sizes_of-buckets.ensures.sound.wide in
    let long : length c.as_slice.result.now ≡ length t.words + 1 = ap length words ∙ length-append t.words (t.linked ∷ []) in
    let s = c.sizes_of-buckets.ensures in
    record {
      wide = e.0 ∙ long ∙ ap (λ (n : ℕ). n + 1) wide ∙ ap (λ (u : Table). counter_at u + 1) (sym start);
      small = s.small;
      bare = e.1;
      sizes = (s.value.0 ∙ sym (ap (λ (u : Table). u.buckets) start), s.value.1 ∙ sym (ap (λ (u : Table). u.nodes) start));
    }

pub invariant_of-result : goal.invariant_of-result
invariant_of-result c =
    let t : Table = c.args.table.now in
    let e = c.in_ok-table.ensures in
    let start : c.in_ok-table.table.shared.key.start.value ≡ t = ap (λ k. k.start.value) e.5 ∙ c.of.ensures in
    record {
      sound = subst IsSound (sym start) c.sizes_of-buckets.ensures.sound;
      refill = c.in_ok-refill.ensures.table ∙ ap (λ (u : Table). empty_table u.buckets u.nodes) (sym start);
      cells = subst (λ (u : Table). HasCells u c.in_ok-cells.cells.items) (sym start) c.in_ok-cells.ensures;
    }
