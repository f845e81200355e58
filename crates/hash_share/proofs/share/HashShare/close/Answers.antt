use Rattle.std.proofs.Common.{◌≡◌, ℕ, ◌+◌, ◌-◌, ◌*◌, ◌<◌, ◌≤◌, List, length, get_or, true, false, inl, inr, subst, sym, ap, ◌∙◌, arith}
use Rattle.std.proofs.lemmas.Bool.{cases_lt}
use mathlib.Core.Option.{some}
use lib.ListN.{get_elem?}
use Rattle.atomic_table.specs.Table.{State}
use Rattle.hash_share.specs.Rule.{Touches}
use Rattle.std.specs.FinMap.{len}
use Rattle.spatial_hash.specs.Contents.{contents}
use Rattle.spatial_hash.specs.Table.{Table, entries_in, empty_table}
use Rattle.spatial_hash.proofs.Walks.{read_at}
use Rattle.hash_share.specs.declared.view.View.{View}
use Rattle.fusion_core.specs.TouchCounts.{firsts}
use Rattle.hash_share.specs.Seats.{Share, Toucher, cell_in}
use Rattle.hash_share.specs.Refill.{IsEnd, IsRefilled}
use Rattle.hash_share.proofs.Refilling.{ended}
use Rattle.hash_share.proofs.Refilled.{refill_first, refill_ready, refill_named, refill_next, spare_yes, spare_no, got_at, keeps_shared, has_touched, only_these, links_many, counts_new}
use Rattle.hash_share.proofs.share.HashShare.close.Goals as goal
use Rattle.hash_share.proofs.share.HashShare.close.Goals.{After-close_with-closed, After-is_spare, After-free}

-- the words and the closing seat at the end, by the share and the seat that contracts see
end-by : (old start : Table) (parts seats id : ℕ) (ws : List ℕ) (u v : View) → (s : State ℕ View) × ((Touches old parts s × (get_elem? s.views id ≡ some u)) × (s.words ≡ ws)) → old ≡ start → parts ≡ seats → u ≡ v → v.part ≡ seats → IsEnd start ws v
end-by old start parts seats id ws u v f same all is whole =
    let own : u.part ≡ parts = ap (λ (z : View). z.part) is ∙ whole ∙ sym all in
    subst (λ (t : Table). IsEnd t ws v) same (subst (IsEnd old ws) is (ended old parts id ws u f.0 f.1.0.0 f.1.0.1 f.1.1 own))

start-is : (c : After-close_with-closed) → c.self.inside.walks.table.shared.key.start.value ≡ c.args.self.start
start-is c = ap (λ (s : Share). s.start) c.self.view_is

end-of : (c : After-close_with-closed) → IsEnd c.args.self.start c.close_with-closed.result.words.items c.args.seat.knows
end-of c =
    let f = c.close_with-closed.ensures.values.2 in
    let key = c.self.inside.walks.table.shared.key in
    end-by key.start.value c.args.self.start key.seats c.args.self.seats c.seat.inside.hand.seat.id c.close_with-closed.result.words.items c.seat.inside.hand.seat.me.0 c.args.seat.knows (f.0, ((f.1.0, f.1.1), f.2))
    (start-is c) (ap (λ (s : Share). s.seats) c.self.view_is) (ap (λ (t : Toucher). t.knows) c.seat.view_is) c.requires.whole

pub loop-e-init : goal.loop-e-init
loop-e-init c =
    let a = (goal.at.loop-e-init c).After-close_with-closed in
    refill_first c.args.self.start c.close_with-closed.result.words.items c.args.seat.knows c.self.inside.refill (end-of a) (c.self.invariant.refill ∙ ap (λ (t : Table). empty_table t.buckets t.nodes) (start-is a))

-- ---- a step

start-in : (c : After-is_spare) → c.self.inside.walks.table.shared.key.start.value ≡ c.args.self.start
start-in c = ap (λ (s : Share). s.start) c.self.view_is

view-in : (c : After-is_spare) → c.seat.inside.hand.seat.me.0 ≡ c.args.seat.knows
view-in c = ap (λ (t : Toucher). t.knows) c.seat.view_is

buckets-is : (c : After-is_spare) → c.self.inside.walks.buckets ≡ c.args.self.start.buckets
buckets-is c = c.self.inside.walks.sizes.0 ∙ ap (λ (t : Table). t.buckets) (start-in c)

nodes-is : (c : After-is_spare) → c.self.inside.walks.nodes ≡ c.args.self.start.nodes
nodes-is c = c.self.inside.walks.sizes.1 ∙ ap (λ (t : Table). t.nodes) (start-in c)

entries-is : (b n : ℕ) (t : Table) → b ≡ t.buckets → n ≡ t.nodes → 4 * b + n ≡ entries_in t
entries-is b n t p q = omega arith

inside : (c : After-is_spare) → c.loop-e.e < entries_in c.args.self.start
inside c =
    subst (λ (x : ℕ). c.loop-e.e < x) (entries-is c.self.inside.walks.buckets c.self.inside.walks.nodes c.args.self.start (buckets-is c) (nodes-is c)) c.loop-e-test.true

word-is : (c : After-is_spare) → get_or c.close_with-closed.result.words.items c.loop-e.e 0 ≡ c.word-word.result
word-is c = got_at c.close_with-closed.result.words.items c.loop-e.e c.word-word.result c.word-word.ensures

spare-is : (c : After-is_spare) → c.is_spare.result ≡ true → (4 * c.args.self.start.buckets ≤ c.loop-e.e) × (0 < firsts (c.loop-e.e - 4 * c.args.self.start.buckets) c.args.seat.knows.nodes)
spare-is c e =
    spare_yes c.self.inside.walks.buckets c.args.self.start.buckets c.loop-e.e c.seat.inside.hand.spares c.seat.inside.hand.seat.me.0.nodes c.args.seat.knows.nodes (buckets-is c) c.seat.invariant.tied.nodes (ap (λ (v : View). v.nodes) (view-in c)) (c.is_spare.ensures.yes e)

own-is : (c : After-is_spare) → c.is_spare.result ≡ false → 4 * c.args.self.start.buckets ≤ c.loop-e.e → firsts (c.loop-e.e - 4 * c.args.self.start.buckets) c.args.seat.knows.nodes ≡ 0
own-is c e =
    spare_no c.self.inside.walks.buckets c.args.self.start.buckets c.loop-e.e c.seat.inside.hand.spares c.seat.inside.hand.seat.me.0.nodes c.args.seat.knows.nodes (buckets-is c) c.seat.invariant.tied.nodes (ap (λ (v : View). v.nodes) (view-in c)) (c.is_spare.ensures.no e)

pub put_back-requires-clause-named : goal.put_back-requires-clause-named
put_back-requires-clause-named c =
    let a = (goal.at.put_back-requires-clause-named c).After-is_spare in
    let b = (goal.at.put_back-requires-clause-named c).After-close_with-closed in
    refill_named c.args.self.start c.close_with-closed.result.words.items c.args.seat.knows (end-of b) c.loop-e.refill c.loop-e.e c.loop-e.invariant (inside a) c.word-word.result (word-is a) c.is_spare.result (spare-is a) (own-is a)

pub put_back-requires-clause-ready : goal.put_back-requires-clause-ready
put_back-requires-clause-ready c =
    let a = (goal.at.put_back-requires-clause-ready c).After-is_spare in
    let b = (goal.at.put_back-requires-clause-ready c).After-close_with-closed in
    refill_ready c.args.self.start c.close_with-closed.result.words.items c.args.seat.knows (end-of b) c.loop-e.refill c.loop-e.e c.loop-e.invariant (inside a) c.word-word.result (word-is a) c.is_spare.result (spare-is a) (own-is a)

pub loop-e-preserved : goal.loop-e-preserved
loop-e-preserved c =
    let a = (goal.at.loop-e-preserved c).After-is_spare in
    let b = (goal.at.loop-e-preserved c).After-close_with-closed in
    let old : Table = c.self.inside.walks.table.shared.key.start.value in
    let lt : c.loop-e.e < entries_in old = subst (λ (t : Table). c.loop-e.e < entries_in t) (sym (start-is b)) (inside a) in
    let long : c.loop-e.e < length c.self.inside.cells.items = subst (λ (x : ℕ). c.loop-e.e < x) (sym c.self.invariant.cells.long) lt in
    let cell : c.index.result.now ≡ cell_in c.args.self.start c.loop-e.e = sym (read_at c.self.inside.cells.items c.loop-e.e c.index.result.now long c.index.ensures) ∙ c.self.invariant.cells.each c.loop-e.e lt ∙ ap (λ (t : Table). cell_in t c.loop-e.e) (start-is b) in
    refill_next c.args.self.start c.close_with-closed.result.words.items c.args.seat.knows (end-of b) c.loop-e.refill c.loop-e.e c.loop-e.invariant (inside a) c.word-word.result (word-is a) c.is_spare.result (spare-is a) (own-is a) c.put_back.new.table c.index.result.now cell c.put_back.ensures

-- ---- the end of the loop

at-end : (e b n : ℕ) (t : Table) → b ≡ t.buckets → n ≡ t.nodes → (e < 4 * b + n → ⊥) → e ≤ 4 * b + n → e ≡ entries_in t
at-end e b n t p q no-more le = elim (cases_lt e (4 * b + n)) [ inl lt ↦ absurd (no-more lt) | inr ge ↦ omega arith ]

last-is : (c : After-free) → c.loop-e.e ≡ entries_in c.args.self.start
last-is c =
    let start : c.self.inside.walks.table.shared.key.start.value ≡ c.args.self.start = ap (λ (s : Share). s.start) c.self.view_is in
    let nb : c.self.inside.walks.buckets ≡ c.args.self.start.buckets = c.self.inside.walks.sizes.0 ∙ ap (λ (t : Table). t.buckets) start in
    let nn : c.self.inside.walks.nodes ≡ c.args.self.start.nodes = c.self.inside.walks.sizes.1 ∙ ap (λ (t : Table). t.nodes) start in
    at-end c.loop-e.e c.self.inside.walks.buckets c.self.inside.walks.nodes c.args.self.start nb nn (λ lt. (let ge = c.loop-e-test.false in absurd (omega arith))) c.loop-e.auto.e-end

-- all entries are in the table
filled-all : (c : After-free) → IsRefilled c.args.self.start c.close_with-closed.result.words.items c.args.seat.knows c.loop-e.refill (entries_in c.args.self.start)
filled-all c = subst (IsRefilled c.args.self.start c.close_with-closed.result.words.items c.args.seat.knows c.loop-e.refill) (last-is c) c.loop-e.invariant

pub returns-clause-shared : goal.returns-clause-shared
returns-clause-shared c =
    let a = goal.at.returns-clause-shared c in
    keeps_shared c.args.self.start c.close_with-closed.result.words.items c.args.seat.knows (end-of a.After-close_with-closed) c.loop-e.refill (filled-all a.After-free)

pub returns-clause-touched : goal.returns-clause-touched
returns-clause-touched c =
    let a = goal.at.returns-clause-touched c in
    has_touched c.args.self.start c.close_with-closed.result.words.items c.args.seat.knows (end-of a.After-close_with-closed) c.loop-e.refill (filled-all a.After-free)

pub returns-clause-only : goal.returns-clause-only
returns-clause-only c =
    let a = goal.at.returns-clause-only c in
    only_these c.args.self.start c.close_with-closed.result.words.items c.args.seat.knows (end-of a.After-close_with-closed) c.loop-e.refill (filled-all a.After-free)

pub returns-clause-linked : goal.returns-clause-linked
returns-clause-linked c =
    let a = goal.at.returns-clause-linked c in
    let P : ℕ → Type 0 = λ x. 0 < c.args.seat.knows.mark → c.args.self.start.nodes ≤ c.loop-e.refill.linked + x in
    subst P c.requires.whole (links_many c.args.self.start c.close_with-closed.result.words.items c.args.seat.knows (end-of a.After-close_with-closed) c.loop-e.refill (filled-all a.After-free))

pub returns-clause-count : goal.returns-clause-count
returns-clause-count c =
    let a = goal.at.returns-clause-count c in
    let start : Table = c.args.self.start in
    let P : ℕ → Type 0 = λ x. 0 < c.args.seat.knows.mark → len (contents start) + (start.nodes - start.linked) ≤ len (contents c.loop-e.refill) + x in
    subst P c.requires.whole (counts_new start c.close_with-closed.result.words.items c.args.seat.knows (end-of a.After-close_with-closed) c.loop-e.refill (filled-all a.After-free))
