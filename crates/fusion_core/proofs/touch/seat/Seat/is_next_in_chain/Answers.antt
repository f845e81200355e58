use Rattle.std.proofs.Common.{◌≡◌, ℕ, suc, ◌+◌, ◌-◌, ◌*◌, ◌<◌, refl, sym, ◌∙◌, arith, rules, inl, inr}
use Rattle.std.proofs.lemmas.Bool.{cases_eq, false≢true}
use Rattle.spatial_hash.specs.Table.{Table, link_word}
use Rattle.fusion_core.specs.TouchWords.{shown}
use Rattle.fusion_core.specs.TouchNext.{sized}
use Rattle.fusion_core.proofs.TouchChain.{bounds, ends_here, goes_on, steps_on, hits}
use Rattle.fusion_core.proofs.touch.seat.Seat.is_next_in_chain.Goals as goal

pub returns-then-next-eq0 : goal.returns-then-next-eq0
returns-then-next-eq0 c =
    let t : Table = sized c.args.table.buckets c.args.table.nodes in
    (λ f. absurd (false≢true f), λ o. absurd (c.if-at-word.false (sym (ends_here t c.args.self.now.seat.seen c.args.key c.args.word c.args.bucket c.loop.counter c.loop.link c.loop.invariant (sym c.seen_at-next.ensures ∙ c.if-next-eq0.true) o))))

pub returns-then-not-passes : goal.returns-then-not-passes
returns-then-not-passes c =
    let t : Table = sized c.args.table.buckets c.args.table.nodes in
    let some : 0 < c.seen_at-next.result = omega arith in
    let e : link_word (shown t c.args.self.now.seat.seen) c.loop.link ≡ suc (c.seen_at-next.result - 1) = sym c.seen_at-next.ensures ∙ omega arith in
    (λ f. absurd (false≢true f), λ o. absurd (false≢true (c.if-not-passes.ensures.1 (goes_on t c.args.self.now.seat.seen c.args.key c.args.word c.args.bucket c.loop.counter c.loop.link (c.seen_at-next.result - 1) c.loop.invariant e (λ q. c.if-at-word.false (sym q)) (λ q. c.if-entry-word.false (sym q)) o).0)))

pub loop-preserved : goal.loop-preserved
loop-preserved c =
    let t : Table = sized c.args.table.buckets c.args.table.nodes in
    let some : 0 < c.seen_at-next.result = omega arith in
    let e : link_word (shown t c.args.self.now.seat.seen) c.loop.link ≡ suc (c.seen_at-next.result - 1) = sym c.seen_at-next.ensures ∙ omega arith in
    steps_on t c.args.self.now.seat.seen c.args.key c.args.word c.args.bucket c.loop.counter c.loop.link (c.seen_at-next.result - 1) c.loop.invariant e (λ q. c.if-at-word.false (sym q)) (λ q. c.if-entry-word.false (sym q)) (c.if-not-passes.ensures.0 refl)

-- after as many nodes as there are the link leads to no node
pub returns : goal.returns
returns c =
    let t : Table = sized c.args.table.buckets c.args.table.nodes in
    let us = c.args.self.now.seat.seen in
    let link : ℕ = link_word (shown t us) c.loop.link in
    let b = bounds t us c.args.key c.args.word c.args.bucket c.loop.counter c.loop.link c.requires.bucket c.requires.short c.loop.invariant in
    let none : link ≡ 0 = elim (cases_eq link 0) [ inl z ↦ z | inr ne ↦ (let lt : c.loop.counter < c.args.table.nodes = (b.1 (omega arith)).1 in absurd (omega arith)) ] in (
      (λ same. hits t us c.args.key c.args.word c.args.bucket c.loop.counter c.loop.link c.loop.invariant (inl (search rules))),
      (λ o. (let e : 4 * c.args.table.buckets + c.args.table.nodes + c.loop.link ≡ c.args.word = sym (ends_here t us c.args.key c.args.word c.args.bucket c.loop.counter c.loop.link c.loop.invariant none o) in search (rules, e))),
    )
