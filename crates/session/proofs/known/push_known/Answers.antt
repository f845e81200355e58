use Rattle.std.proofs.Common.{◌≡◌, ◌++◌, sym, ap, subst, ◌∙◌, append-nil}
use Rattle.std.specs.Prelude.{OnOk}
use Rattle.session.specs.Sums.{known_in_option}
use Rattle.session.proofs.known.push_known.Goals as goal

pub returns-in-Some : goal.returns-in-Some
returns-in-Some c =
    subst (λ o. OnOk c.push_block.result (c.push_block.new.known.items ≡ c.args.known.now.items ++ known_in_option c.args.key o)) c.in-Some.ensures.value c.push_block.ensures

pub returns-in-None : goal.returns-in-None
returns-in-None c = sym (append-nil c.args.known.now.items) ∙ ap (λ o. c.args.known.now.items ++ known_in_option c.args.key o) c.in-None.ensures.value
