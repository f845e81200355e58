use Rattle.std.proofs.Common.{◌≡◌, ◌<◌, ◌≤◌, ◌+◌, ◌*◌, ◌-◌, ℕ, arith, sym, ap, ◌∙◌, length, rules, get_or}
use Rattle.spatial_hash.specs.Hash.{home}
use Rattle.spatial_hash.specs.Table.{Table, key_word}
use Rattle.spatial_hash.specs.View.{table_view}
use Rattle.spatial_hash.specs.Sound.{IsSound}
use Rattle.spatial_hash.proofs.Walks.{key_read}
use Rattle.spatial_hash.proofs.Homes.{home_low}
use Rattle.spatial_hash.proofs.Tails.{Ahead, NodeAhead, ahead_start, node_ahead, ahead_out, ahead_low}
use Rattle.spatial_hash.proofs.table.HashTable.link_to.Goals as goal

pub loop-init : goal.loop-init
loop-init c =
    let t = table_view c.self.inside in
    let lt : c.args.node < c.self.inside.linked = rw (← c.self.view_is) at c.requires in
    let few : c.self.inside.linked ≤ c.self.inside.nodes = c.self.invariant.few_linked in
    let b : c.self.inside.buckets ≡ c.args.self.now.buckets = ap (λ (u : Table). u.buckets) c.self.view_is in
    let is : key_word t (4 * c.self.inside.buckets + c.args.node) ≡ c.index.result.now = key_read t (4 * c.self.inside.buckets + c.args.node) c.index.result.now c.self.invariant (omega arith) c.index.ensures in
    let same : c.home-link.result ≡ home c.self.inside.buckets (key_word t (4 * c.self.inside.buckets + c.args.node)) = c.home-link.ensures.value ∙ ap (λ (x : ℕ). home x c.index.result.now) (sym b) ∙ ap (home c.self.inside.buckets) (sym is) in
    rw same (ahead_start t c.args.node c.self.invariant lt)

pub overflow_add-self-inside-in-loop-2 : goal.overflow_add-self-inside-in-loop-2
overflow_add-self-inside-in-loop-2 c =
    let t = table_view c.self.inside in
    let h : home c.self.inside.buckets (key_word t (4 * c.self.inside.buckets + c.args.node)) < c.self.inside.buckets = home_low c.self.inside.buckets (key_word t (4 * c.self.inside.buckets + c.args.node)) c.self.invariant.some_buckets in
    let j : c.loop.link < c.self.inside.buckets + c.self.inside.nodes = ahead_low t _ c.args.node c.loop.link c.loop.counter h c.loop.invariant in
    let few : c.self.inside.nodes ≤ 1000000 = c.self.invariant.few_nodes in
    let less : c.self.inside.buckets ≤ 65536 = c.self.invariant.few_buckets in
    search rules

pub index-requires-in-loop : goal.index-requires-in-loop
index-requires-in-loop c =
    let t = table_view c.self.inside in
    let h : home c.self.inside.buckets (key_word t (4 * c.self.inside.buckets + c.args.node)) < c.self.inside.buckets = home_low c.self.inside.buckets (key_word t (4 * c.self.inside.buckets + c.args.node)) c.self.invariant.some_buckets in
    let j : c.loop.link < c.self.inside.buckets + c.self.inside.nodes = ahead_low t _ c.args.node c.loop.link c.loop.counter h c.loop.invariant in
    let w : length c.self.inside.words.items ≡ 5 * c.self.inside.buckets + 2 * c.self.inside.nodes = c.self.invariant.wide in
    omega (arith, c.self.inside.words.ok.0)

ahead : (t : Table) (n j i v : ℕ) → IsSound t → Ahead t (home t.buckets (key_word t (4 * t.buckets + n))) n j i → v ≡ get_or t.words (4 * t.buckets + t.nodes + j) v
    → NodeAhead t (home t.buckets (key_word t (4 * t.buckets + n))) n j i v
ahead t n j i v s a e = node_ahead t (home t.buckets (key_word t (4 * t.buckets + n))) n j i v s (home_low t.buckets (key_word t (4 * t.buckets + n)) s.some_buckets) a e

pub overflow_sub-next : goal.overflow_sub-next
overflow_sub-next c =
    let x = ahead (table_view c.self.inside) c.args.node c.loop.link c.loop.counter c.index-in-loop.result.now c.self.invariant c.loop.invariant c.index-in-loop.ensures in
    let some : 0 < c.index-in-loop.result.now = x.some in
    omega arith

pub returns-then-next-node-clause-led : goal.returns-then-next-node-clause-led
returns-then-next-node-clause-led c =
    let x = ahead (table_view c.self.inside) c.args.node c.loop.link c.loop.counter c.index-in-loop.result.now c.self.invariant c.loop.invariant c.index-in-loop.ensures in
    rw (← c.self.view_is) (x.hit c.if-next-node.true)

pub overflow_add-link : goal.overflow_add-link
overflow_add-link c =
    let x = ahead (table_view c.self.inside) c.args.node c.loop.link c.loop.counter c.index-in-loop.result.now c.self.invariant c.loop.invariant c.index-in-loop.ensures in
    let low : c.index-in-loop.result.now - 1 < c.self.inside.nodes = x.low in
    let few : c.self.inside.nodes ≤ 1000000 = c.self.invariant.few_nodes in
    let less : c.self.inside.buckets ≤ 65536 = c.self.invariant.few_buckets in
    search rules

pub loop-preserved : goal.loop-preserved
loop-preserved c =
    let x = ahead (table_view c.self.inside) c.args.node c.loop.link c.loop.counter c.index-in-loop.result.now c.self.invariant c.loop.invariant c.index-in-loop.ensures in
    x.past c.if-next-node.false

pub returns-clause-led : goal.returns-clause-led
returns-clause-led c =
    let t = table_view c.self.inside in
    let lt : c.args.node < c.self.inside.linked = rw (← c.self.view_is) at c.requires in
    rw (← c.self.view_is) (ahead_out t (home c.self.inside.buckets (key_word t (4 * c.self.inside.buckets + c.args.node))) c.args.node c.loop.link c.loop.counter c.loop.invariant (omega arith))
