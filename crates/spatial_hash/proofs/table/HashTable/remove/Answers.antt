use Rattle.std.proofs.Common.{◌≡◌, ◌≢◌, ◌<◌, ◌+◌, ◌*◌, ◌-◌, ℕ, arith, sym, ap, ◌∙◌, subst}
use Rattle.spatial_hash.specs.Hash.{home}
use Rattle.spatial_hash.specs.Table.{Table, link_word, key_word}
use Rattle.spatial_hash.specs.View.{table_view}
use Rattle.spatial_hash.specs.Sound.{IsSound}
use Rattle.spatial_hash.specs.Removal.{IsLast, IsBucketEnd, IsChainEnd, LeadsTo}
use Rattle.spatial_hash.proofs.Walks.{link_read}
use Rattle.spatial_hash.proofs.Homes.{bucket_low}
use Rattle.spatial_hash.proofs.Places.{is_linked}
use Rattle.spatial_hash.proofs.Found.{IsFoundAt, found_at, entry_found, entry_none, has_found, has_none, first_filled, last_in_bucket, last_in_chain}
use Rattle.spatial_hash.proofs.Removed.{taken_map, top_map, below_map}
use Rattle.spatial_hash.proofs.table.HashTable.remove.Goals as goal
use Rattle.spatial_hash.proofs.table.HashTable.remove.Goals.{After-bucket-bucket}

sound : (c : After-bucket-bucket) → IsSound c.args.self.now
sound c = rw c.self.view_is at c.self.invariant

found : (c : After-bucket-bucket) → IsFoundAt c.args.self.now c.args.key c.in-Found.entry
found c = found_at c.args.self.now c.args.key c.in-Found.entry c.in-Found.ensures.lookup c.in-Found.ensures.cell

bucket_last : (c : After-bucket-bucket) (l : ℕ) → IsBucketEnd c.args.self.now c.bucket-bucket.result l → IsLast c.args.self.now c.bucket-bucket.result c.in-Found.entry l
bucket_last c l e =
    rw c.bucket-bucket.ensures.value (last_in_bucket c.args.self.now c.args.key c.in-Found.entry l (sound c) (bucket_low c.args.self.now.buckets c.args.key (sound c).some_buckets) (found c) (rw c.bucket-bucket.ensures.value at e))

chain_last : (c : After-bucket-bucket) (n j : ℕ) → IsChainEnd c.args.self.now c.bucket-bucket.result n j → IsLast c.args.self.now c.bucket-bucket.result c.in-Found.entry (4 * c.args.self.now.buckets + n)
chain_last c n j e =
    rw c.bucket-bucket.ensures.value (last_in_chain c.args.self.now c.args.key c.in-Found.entry n j (sound c) (found c) (rw c.bucket-bucket.ensures.value at e))

pub returns-in_default-clause-entry : goal.returns-in_default-clause-entry
returns-in_default-clause-entry c = entry_none c.args.self.now c.args.key c.seek.result c.in_default.not-Found c.seek.ensures.lookup

pub last_entry-last-requires-clause-filled : goal.last_entry-last-requires-clause-filled
last_entry-last-requires-clause-filled c =
    let a = (goal.at.last_entry-last-requires-clause-filled c).After-bucket-bucket in
    let t = table_view c.self.inside in
    let lh : c.bucket-bucket.result < c.self.inside.buckets = rw (← c.self.view_is) at c.bucket-bucket.ensures.bound in
    let z : link_word t c.bucket-bucket.result ≡ 0 = link_read t c.bucket-bucket.result c.index.result.now c.self.invariant (omega arith) c.index.ensures ∙ c.if-index-eq0.true in
    let P : Table → Type 0 = λ u. link_word u c.bucket-bucket.result ≡ 0 in
    let z2 : link_word c.args.self.now c.bucket-bucket.result ≡ 0 = subst P c.self.view_is z in
    first_filled c.args.self.now c.bucket-bucket.result c.in-Found.entry (sound a) (found a).low (found a).filled ((found a).at_home ∙ sym c.bucket-bucket.ensures.value) c.bucket-bucket.ensures.bound z2

pub remove_entry-requires-clause-last : goal.remove_entry-requires-clause-last
remove_entry-requires-clause-last c = bucket_last (goal.at.remove_entry-requires-clause-last c).After-bucket-bucket c.last_entry-last.result c.last_entry-last.ensures

pub returns-then-index-eq0-clause-entry : goal.returns-then-index-eq0-clause-entry
returns-then-index-eq0-clause-entry c = entry_found c.args.self.now c.args.key c.in-Found.entry c.in-Found.ensures.lookup

pub returns-then-index-eq0-clause-map : goal.returns-then-index-eq0-clause-map
returns-then-index-eq0-clause-map c =
    let a = (goal.at.returns-then-index-eq0-clause-map c).After-bucket-bucket in
    rw c.remove_entry.ensures (taken_map c.args.self.now c.bucket-bucket.result c.in-Found.entry c.last_entry-last.result (sound a) (bucket_last a c.last_entry-last.result c.last_entry-last.ensures) c.args.key (found a).key)

pub remove_top-requires-clause-last : goal.remove_top-requires-clause-last
remove_top-requires-clause-last c = chain_last (goal.at.remove_top-requires-clause-last c).After-bucket-bucket c.last_node-last.result.node c.last_node-last.result.link c.last_node-last.ensures

pub returns-then-last-self-clause-entry : goal.returns-then-last-self-clause-entry
returns-then-last-self-clause-entry c = entry_found c.args.self.now c.args.key c.in-Found.entry c.in-Found.ensures.lookup

pub returns-then-last-self-clause-map : goal.returns-then-last-self-clause-map
returns-then-last-self-clause-map c =
    let a = (goal.at.returns-then-last-self-clause-map c).After-bucket-bucket in
    let x = chain_last a c.last_node-last.result.node c.last_node-last.result.link c.last_node-last.ensures in
    let top : c.last_node-last.result.node + 1 ≡ c.args.self.now.linked = c.if-last-self.true ∙ ap (λ (u : Table). u.linked) c.self.view_is in
    rw c.remove_top.ensures (top_map c.args.self.now c.bucket-bucket.result c.in-Found.entry c.last_node-last.result.node c.last_node-last.result.link (sound a) c.bucket-bucket.ensures.bound x c.last_node-last.ensures c.args.key (found a).key top)

pub remove_below-requires-clause-last : goal.remove_below-requires-clause-last
remove_below-requires-clause-last c = chain_last (goal.at.remove_below-requires-clause-last c).After-bucket-bucket c.last_node-last.result.node c.last_node-last.result.link c.last_node-last.ensures

pub returns-clause-entry : goal.returns-clause-entry
returns-clause-entry c = entry_found c.args.self.now c.args.key c.in-Found.entry c.in-Found.ensures.lookup

pub returns-clause-map : goal.returns-clause-map
returns-clause-map c =
    let a = (goal.at.returns-clause-map c).After-bucket-bucket in
    let n = c.last_node-last.result.node in
    let end : IsChainEnd c.args.self.now c.bucket-bucket.result c.last_node-last.result.node c.last_node-last.result.link = c.last_node-last.ensures in
    let x = chain_last a c.last_node-last.result.node c.last_node-last.result.link end in
    let same : c.self.inside.linked ≡ c.args.self.now.linked = ap (λ (u : Table). u.linked) c.self.view_is in
    let some : c.last_node-last.result.node < c.args.self.now.linked = is_linked c.args.self.now c.last_node-last.result.node (sound a) end.step.low end.step.filled in
    let is : c.link_to-top.result.node ≡ c.self.inside.linked - 1 = c.link_to-top.ensures.node in
    let top : c.link_to-top.result.node + 1 ≡ c.args.self.now.linked = omega arith in
    let not : c.last_node-last.result.node + 1 ≢ c.self.inside.linked = c.if-last-self.false in
    let other : c.last_node-last.result.node ≢ c.link_to-top.result.node = λ z. not (omega arith) in
    let P : ℕ → Type 0 = λ m. LeadsTo c.args.self.now (home c.args.self.now.buckets (key_word c.args.self.now (4 * c.args.self.now.buckets + m))) m c.link_to-top.result.link in
    let led : P c.link_to-top.result.node = subst P (sym is) c.link_to-top.ensures.led in
    rw c.remove_below.ensures (below_map c.args.self.now c.bucket-bucket.result c.in-Found.entry c.last_node-last.result.node c.last_node-last.result.link (sound a) c.bucket-bucket.ensures.bound x end c.args.key (found a).key
    c.link_to-top.result.node c.link_to-top.result.link top other led)

pub returns-in_default-clause-had : goal.returns-in_default-clause-had
returns-in_default-clause-had c = has_none c.args.self.now c.args.key c.seek.result c.in_default.not-Found c.seek.ensures.cell

pub returns-then-index-eq0-clause-had : goal.returns-then-index-eq0-clause-had
returns-then-index-eq0-clause-had c = has_found c.args.self.now c.args.key c.in-Found.entry c.in-Found.ensures.cell

pub returns-then-last-self-clause-had : goal.returns-then-last-self-clause-had
returns-then-last-self-clause-had c = has_found c.args.self.now c.args.key c.in-Found.entry c.in-Found.ensures.cell

pub returns-clause-had : goal.returns-clause-had
returns-clause-had c = has_found c.args.self.now c.args.key c.in-Found.entry c.in-Found.ensures.cell
