use Rattle.std.proofs.Common.{◌≡◌, ℕ, List, [], ◌∷◌}
use Rattle.std.specs.Prelude.{Option, Some, None, MatchOption}
use Rattle.fusion_core.specs.declared.touch.seat.Unlinked.{Unlinked}
use Rattle.fusion_core.specs.TouchMachine.{HasNodes}
use Rattle.fusion_core.proofs.TouchGuards.{nodes_are}
use Rattle.fusion_core.proofs.touch.machine.TouchCore.node.Goals as goal

match_by : (P Q : List (ℕ × ℕ) → Type 0) → ((ns : List (ℕ × ℕ)) → P ns → Q ns) → (o : Option Unlinked) → MatchOption o (P []) (λ n. P ((n.number, n.word) ∷ [])) → MatchOption o (Q []) (λ n. Q ((n.number, n.word) ∷ []))
match_by P Q f None p = f [] p
match_by P Q f (Some n) p = f ((n.number, n.word) ∷ []) p

pub returns : goal.returns
returns c =
    let m = c.self.inside in
    match_by (λ ns. c.index.result.now.seat.nodes ≡ ns) (HasNodes c.args.self.now c.args.seat)
    (nodes_are m.start.value m.size m.words.items m.seats.items c.self.invariant c.args.self.now c.self.view_is c.args.seat c.requires c.index.result.now c.index.ensures) c.node.result c.node.ensures
