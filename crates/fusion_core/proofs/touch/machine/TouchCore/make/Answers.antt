use Rattle.std.proofs.Common.{◌≡◌, ℕ, length, ◌++◌, ◌∷◌, [], sym, ap, ◌∙◌, subst}
use Rattle.spatial_hash.specs.Table.{Table, entries_in}
use Rattle.fusion_core.specs.TouchNext.{sized}
use Rattle.fusion_core.specs.TouchRoom.{AreFresh}
use Rattle.fusion_core.specs.TouchMachine.{RuleHolds, touch_start}
use Rattle.fusion_core.specs.TouchCoreView.{state_of, IsStateOf}
use Rattle.fusion_core.proofs.TouchMaking.{started, rule_starts, makes}
use Rattle.fusion_core.proofs.touch.machine.TouchCore.make.Goals as goal

words_are : (c : goal.After-of) → c.in_ok-words.words.items ≡ c.args.table.now.words ++ c.args.table.now.linked ∷ []
words_are c = c.in_ok-words.ensures ∙ ap (λ (l : ℕ). c.args.table.now.words ++ l ∷ []) c.linked-linked.ensures.value

fresh : (c : goal.After-of) → AreFresh c.args.seats (length c.in_ok-words.words.items) (entries_in (sized c.buckets.result c.nodes.result)) c.in_ok-seats.seats.items
fresh c =
    let e = c.in_ok-seats.ensures in
    let l : c.len.result ≡ length c.in_ok-words.words.items = c.len.ensures ∙ c.in_ok-words.words.ok.0 in
    subst (λ (n : ℕ). AreFresh c.args.seats (length c.in_ok-words.words.items) n c.in_ok-seats.seats.items) c.entries.ensures
    (subst (λ (n : ℕ). AreFresh c.args.seats n c.entries.result c.in_ok-seats.seats.items) l e)

pub invariant_of-result : goal.invariant_of-result
invariant_of-result c =
    let made = makes c.args.table.now c.linked-linked.ensures.sound c.args.seats c.requires.most (record { buckets = c.buckets.result; nodes = c.nodes.result }) c.buckets.ensures c.nodes.ensures c.in_ok-words.words.items (words_are c) c.in_ok-seats.seats.items (fresh c) in
    subst (λ (t : Table). IsStateOf t (record { buckets = c.buckets.result; nodes = c.nodes.result }) c.in_ok-words.words.items c.in_ok-seats.seats.items) (sym c.of.ensures) made

state_is : (c : goal.After-of) → state_of c.of.result.value c.in_ok-words.words.items c.in_ok-seats.seats.items ≡ touch_start c.args.table.now c.args.seats
state_is c =
    ap (λ (t : Table). state_of t c.in_ok-words.words.items c.in_ok-seats.seats.items) c.of.ensures
    ∙ started c.args.table.now c.linked-linked.ensures.sound c.args.seats c.requires.most (record { buckets = c.buckets.result; nodes = c.nodes.result }) c.buckets.ensures c.nodes.ensures c.in_ok-words.words.items (words_are c) c.in_ok-seats.seats.items (fresh c)

pub returns-clause-state : goal.returns-clause-state
returns-clause-state c = state_is c

pub returns-clause-rule : goal.returns-clause-rule
returns-clause-rule c =
    let r = rule_starts c.args.table.now c.linked-linked.ensures.sound c.args.seats c.requires.most (record { buckets = c.buckets.result; nodes = c.nodes.result }) c.buckets.ensures c.nodes.ensures c.in_ok-words.words.items (words_are c) c.in_ok-seats.seats.items (fresh c) in
    subst RuleHolds (sym (state_is c)) r
