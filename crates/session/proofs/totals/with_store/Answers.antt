use Rattle.std.proofs.Common.{◌≡◌, suc, List, length, sym, ap, ◌∙◌, arith}
use Rattle.std.specs.List.{fold}
use Rattle.chunk_store.specs.Rows.{Held}
use Rattle.session.specs.declared.totals.Sums.{Sums}
use Rattle.session.specs.Sums.{with_packed_known}
use Rattle.session.proofs.SumLemmas.{of_store}
use Rattle.session.proofs.totals.with_store.Goals as goal

pub loop-key-init : goal.loop-key-init
loop-key-init c =
    let all = c.blocks-key-items.ensures in
    let same = c.into_iter-key-iterator.ensures.into_iter_gives in
    let few = c.requires.few in
    let bound = all.bound in
    let count : length c.into_iter-key-iterator.result ≡ length c.blocks-key-items.result = ap (λ (es : List Held). length es) same in
    record {
      left = of_store c.args.sums c.args.store.now.contents c.blocks-key-items.result c.into_iter-key-iterator.result all.distinct all.contents same;
      sum = c.requires.sum;
      few = omega (arith, few, bound, count);
    }

pub loop-key-preserved : goal.loop-key-preserved
loop-key-preserved c =
    let rest = c.next.new.self in
    let steps = c.in-Some.ensures.steps in
    let few = c.loop-key.invariant.few in
    let more = c.with_packed-result.ensures.few in
    let count : length c.loop-key.key-iterator ≡ suc (length rest) = ap (λ (es : List Held). length es) steps in
    record {
      left = ap (λ (t : Sums). fold with_packed_known t rest) c.with_packed-result.ensures.value ∙ sym (ap (fold with_packed_known c.loop-key.result) steps) ∙ c.loop-key.invariant.left;
      sum = c.with_packed-result.ensures.sum;
      few = omega (arith, few, more, count);
    }

pub returns : goal.returns
returns c = sym (ap (fold with_packed_known c.loop-key.result) c.in-None.ensures.steps.0) ∙ c.loop-key.invariant.left
