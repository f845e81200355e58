use Rattle.std.proofs.Common.{◌≢◌, ◌∙◌, ap, sym}
use Rattle.std.specs.Prelude.{Some}
use Rattle.band_walk.specs.Remaining.{remaining_blocks, keys_after}
use Rattle.band_walk.proofs.Keys.{given}
use Rattle.band_walk.proofs.blocks.next_key.Goals as goal

pub returns-then-not-is_last-clause-gives : goal.returns-then-not-is_last-clause-gives
returns-then-not-is_last-clause-gives c =
    let key = c.in_ok-key.key in
    let other : c.args.last ≢ Some key = λ e. (let is = c.is_last.ensures.1 e in absurd (cc)) in
    sym c.loop-key.invariant.remaining ∙ ap (keys_after c.args.last) c.in_ok-key.ensures.gives ∙ given c.args.last key (remaining_blocks c.next_block.new.self) other
