use Rattle.std.proofs.Common.{◌≡◌, ℕ, ◌<◌, ◌^◌, length, ap, ◌∙◌, arith, zero-add, rules}
use Rattle.std.specs.FinMap.{len}
use Rattle.std.specs.List.{sum_by}
use Rattle.std.proofs.lemmas.Int.{to_z-of_z}
use mir.Val.{SFits}
use mir.Syntax.{w64, w128}
use Rattle.scan_lang.specs.declared.reply.KnownVoxel.{KnownVoxel}
use Rattle.session.specs.declared.totals.Sums.{Sums}
use Rattle.scan_io.specs.Reading.{saturated}
use Rattle.session.specs.Fold.{within_i64, known_voxels}
use Rattle.streamer.specs.Places.{blocks_of}
use Rattle.session.specs.Sums.{nothing}
use Rattle.session.proofs.SumLemmas.{known_of, weight_of, distance_of}
use Rattle.session.proofs.totals.totals.Goals as goal

small : (n k : ℕ) → n ≡ k → n < 2 ^ 64 → n ≡ saturated k
small n k e h = omega arith

pub returns : goal.returns
returns c =
    let m = blocks_of c.args.rest.now in
    let ks = known_voxels m in
    let is = c.sums_over-sums.ensures in
    let blocks : c.len.result < 2 ^ 64 = search rules in
    let fits : SFits w64 c.within_i64.result = search rules in
    let wide : SFits w128 c.sums_over-sums.result.distance = search rules in
    let known = c.saturated.ensures ∙ ap saturated (ap (λ (s : Sums). s.known) is ∙ known_of nothing ks ∙ zero-add (length ks)) in
    let weight = c.saturated-2.ensures ∙ ap saturated (ap (λ (s : Sums). s.weight) is ∙ weight_of nothing ks ∙ zero-add (sum_by (λ (v : KnownVoxel). v.w) ks)) in
    let distance = to_z-of_z w64 c.within_i64.result fits ∙ c.within_i64.ensures ∙ ap within_i64 (to_z-of_z w128 c.sums_over-sums.result.distance wide ∙ ap (λ (s : Sums). s.distance) is ∙ distance_of nothing ks) in
    λ i. record { blocks = small c.len.result (len m) c.len.ensures.blocks blocks i; known = known i; weight = weight i; distance = distance i }
