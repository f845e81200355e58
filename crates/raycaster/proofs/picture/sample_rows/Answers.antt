use Rattle.std.proofs.Common.{◌≡◌, ℕ, ◌+◌, ◌*◌, ◌++◌, vec_len, length, sym, ◌∙◌, arith}
use Rattle.raycaster.specs.Views.{scene_of_view}
use Rattle.raycaster.specs.Walk.{row_samples}
use Rattle.raycaster.proofs.PictureLemmas.{one_more_row}
use Rattle.raycaster.proofs.picture.sample_rows.Goals as goal

next_count : (w v n m l : ℕ) → n ≡ w * v → m ≡ n + l → l ≡ w → m ≡ w * (v + 1)
next_count w v n m l a b c = omega arith

pub loop-v-preserved : goal.loop-v-preserved
loop-v-preserved c =
    let s = scene_of_view c.args.view.now in
    let v = c.loop-v.v in
    let old = c.loop-v.invariant in
    let row : length c.sample_row.new.out ≡ c.args.width = c.sample_row.auto.out ∙ old.row in
    record {
      samples = c.in_ok-extend_from_slice.ensures.items ∙ (λ i. old.samples i ++ c.sample_row.ensures i) ∙ sym (one_more_row (row_samples s) v);
      count = next_count c.args.width v (vec_len c.loop-v.raw) (vec_len c.extend_from_slice.new.self) (length c.sample_row.new.out) old.count c.in_ok-extend_from_slice.ensures.len row;
      row = row;
    }
