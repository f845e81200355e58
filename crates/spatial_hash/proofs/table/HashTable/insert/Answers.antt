use Rattle.std.proofs.Common.{◌≡◌, ◌≢◌, ℕ, ◌+◌, ◌*◌, ◌<◌, ◌≤◌, arith, sym, ap, ◌∙◌}
use Rattle.std.specs.Prelude.{Some, None, Option}
use Rattle.spatial_hash.specs.Hash.{home, bucket_of}
use Rattle.spatial_hash.specs.Table.{Table}
use Rattle.spatial_hash.specs.Changes.{written, extended}
use Rattle.spatial_hash.specs.Walk.{IsFilled}
use Rattle.spatial_hash.specs.Sound.{IsSound, EndsAt}
use Rattle.spatial_hash.specs.Lookup.{IsNew, IsFreeAt}
use Rattle.spatial_hash.proofs.Homes.{new_key, IsWordOf, home_is}
use Rattle.std.specs.FinMap.{len}
use Rattle.spatial_hash.specs.Contents.{contents}
use Rattle.spatial_hash.proofs.Counts.{linked_few}
use Rattle.spatial_hash.proofs.Staying.{entry_absent}
use Rattle.spatial_hash.proofs.Inserted.{IsInserted, filled_inserts, extended_inserts}
use Rattle.spatial_hash.proofs.table.HashTable.insert.Goals as goal
use Rattle.spatial_hash.proofs.table.HashTable.insert.Goals.{After-seek}

word_of : (c : After-seek) → IsWordOf c.word-word.result c.args.key
word_of c = record { word = c.word-word.ensures.value; low = c.word-word.ensures.bound; back = c.word-word.ensures.back }

sound : (c : After-seek) → IsSound c.args.self.now
sound c = rw c.self.view_is at c.self.invariant

new : (c : After-seek) → IsNew c.args.self.now c.word-word.result
new c =
    new_key c.args.self.now c.word-word.result c.args.key (sound c) (word_of c)
    (entry_absent c.args.self.now c.args.key c.seek.result c.seek.ensures.lookup c.seek.ensures.cell c.requires)

home_here : (c : After-seek) → home c.args.self.now.buckets c.word-word.result ≡ bucket_of c.args.self.now.buckets c.args.key
home_here c = home_is c.args.self.now.buckets c.word-word.result c.args.key c.word-word.ensures.back

pub unreachable-requires : goal.unreachable-requires
unreachable-requires c = let e : ◌≡◌ {A = Option ℕ} None (Some _) = sym c.requires ∙ c.in-Found.ensures.cell in absurd (cc)

pub returns-then-self-clause-many : goal.returns-then-self-clause-many
returns-then-self-clause-many c =
    let few : c.args.self.now.linked ≤ len (contents c.args.self.now) = linked_few c.args.self.now (rw c.self.view_is at c.self.invariant) in
    let l : c.self.inside.linked ≡ c.args.self.now.linked = ap (λ (u : Table). u.linked) c.self.view_is in
    let n : c.self.inside.nodes ≡ c.args.self.now.nodes = ap (λ (u : Table). u.nodes) c.self.view_is in
    let all : c.self.inside.linked ≡ c.self.inside.nodes = c.if-self.true in
    omega arith

pub fill-requires-clause-new : goal.fill-requires-clause-new
fill-requires-clause-new c = new (goal.at.fill-requires-clause-new c).After-seek

pub fill-requires-clause-free : goal.fill-requires-clause-free
fill-requires-clause-free c = rw (home_here (goal.at.fill-requires-clause-free c).After-seek) c.in-Vacant.ensures.lookup.1

pub extend-entry-requires-clause-new : goal.extend-entry-requires-clause-new
extend-entry-requires-clause-new c = new (goal.at.extend-entry-requires-clause-new c).After-seek

pub extend-entry-requires-clause-filled : goal.extend-entry-requires-clause-filled
extend-entry-requires-clause-filled c = rw (home_here (goal.at.extend-entry-requires-clause-filled c).After-seek) c.in-ChainEnd.ensures.lookup.1

pub extend-entry-requires-clause-last : goal.extend-entry-requires-clause-last
extend-entry-requires-clause-last c = rw (home_here (goal.at.extend-entry-requires-clause-last c).After-seek) c.in-ChainEnd.ensures.lookup.2

filled : (a : After-seek) {e : ℕ} {u : Table} → IsFreeAt a.args.self.now (bucket_of a.args.self.now.buckets a.args.key) e → u ≡ written a.args.self.now e a.word-word.result a.args.cell
    → IsInserted a.args.self.now u e a.args.key a.args.cell
filled a {e} free is = rw is (filled_inserts a.args.self.now a.word-word.result a.args.cell e a.args.key (sound a) (word_of a) (new a) (rw (home_here a) free))

extended_at : (a : After-seek) {j e : ℕ} {u : Table} → IsFilled a.args.self.now (bucket_of a.args.self.now.buckets a.args.key) → EndsAt a.args.self.now (bucket_of a.args.self.now.buckets a.args.key) j
    → a.self.inside.linked ≢ a.self.inside.nodes → u ≡ extended a.args.self.now j a.word-word.result a.args.cell → e ≡ 4 * a.args.self.now.buckets + a.args.self.now.linked
    → IsInserted a.args.self.now u e a.args.key a.args.cell
extended_at a {j} full last some is here =
    let l : a.self.inside.linked ≡ a.args.self.now.linked = ap (λ (u : Table). u.linked) a.self.view_is in
    let n : a.self.inside.nodes ≡ a.args.self.now.nodes = ap (λ (u : Table). u.nodes) a.self.view_is in
    let few : a.self.inside.linked ≤ a.self.inside.nodes = a.self.invariant.few_linked in
    let room : a.args.self.now.linked < a.args.self.now.nodes = omega arith in
    rw (is, here) (extended_inserts a.args.self.now a.word-word.result a.args.cell j a.args.key (sound a) (word_of a) (new a) (rw (home_here a) full) (rw (home_here a) last) room)

pub returns-in-Vacant-clause-map : goal.returns-in-Vacant-clause-map
returns-in-Vacant-clause-map c = (filled (goal.at.returns-in-Vacant-clause-map c).After-seek c.in-Vacant.ensures.lookup.1 c.fill.ensures).map

pub returns-else-self-clause-map : goal.returns-else-self-clause-map
returns-else-self-clause-map c = (extended_at (goal.at.returns-else-self-clause-map c).After-seek c.in-ChainEnd.ensures.lookup.1 c.in-ChainEnd.ensures.lookup.2 c.if-self.false c.extend-entry.ensures.table c.extend-entry.ensures.entry).map

pub returns-in-Vacant-clause-entry : goal.returns-in-Vacant-clause-entry
returns-in-Vacant-clause-entry c = (filled (goal.at.returns-in-Vacant-clause-entry c).After-seek c.in-Vacant.ensures.lookup.1 c.fill.ensures).entry

pub returns-else-self-clause-entry : goal.returns-else-self-clause-entry
returns-else-self-clause-entry c = (extended_at (goal.at.returns-else-self-clause-entry c).After-seek c.in-ChainEnd.ensures.lookup.1 c.in-ChainEnd.ensures.lookup.2 c.if-self.false c.extend-entry.ensures.table c.extend-entry.ensures.entry).entry

pub returns-in-Vacant-clause-key : goal.returns-in-Vacant-clause-key
returns-in-Vacant-clause-key c = (filled (goal.at.returns-in-Vacant-clause-key c).After-seek c.in-Vacant.ensures.lookup.1 c.fill.ensures).key

pub returns-else-self-clause-key : goal.returns-else-self-clause-key
returns-else-self-clause-key c = (extended_at (goal.at.returns-else-self-clause-key c).After-seek c.in-ChainEnd.ensures.lookup.1 c.in-ChainEnd.ensures.lookup.2 c.if-self.false c.extend-entry.ensures.table c.extend-entry.ensures.entry).key

pub returns-in-Vacant-clause-cell : goal.returns-in-Vacant-clause-cell
returns-in-Vacant-clause-cell c = (filled (goal.at.returns-in-Vacant-clause-cell c).After-seek c.in-Vacant.ensures.lookup.1 c.fill.ensures).cell

pub returns-else-self-clause-cell : goal.returns-else-self-clause-cell
returns-else-self-clause-cell c = (extended_at (goal.at.returns-else-self-clause-cell c).After-seek c.in-ChainEnd.ensures.lookup.1 c.in-ChainEnd.ensures.lookup.2 c.if-self.false c.extend-entry.ensures.table c.extend-entry.ensures.entry).cell

pub returns-in-Vacant-clause-others : goal.returns-in-Vacant-clause-others
returns-in-Vacant-clause-others c = (filled (goal.at.returns-in-Vacant-clause-others c).After-seek c.in-Vacant.ensures.lookup.1 c.fill.ensures).others

pub returns-else-self-clause-others : goal.returns-else-self-clause-others
returns-else-self-clause-others c = (extended_at (goal.at.returns-else-self-clause-others c).After-seek c.in-ChainEnd.ensures.lookup.1 c.in-ChainEnd.ensures.lookup.2 c.if-self.false c.extend-entry.ensures.table c.extend-entry.ensures.entry).others

pub returns-in-Vacant-clause-puts : goal.returns-in-Vacant-clause-puts
returns-in-Vacant-clause-puts c = (filled (goal.at.returns-in-Vacant-clause-puts c).After-seek c.in-Vacant.ensures.lookup.1 c.fill.ensures).puts

pub returns-else-self-clause-puts : goal.returns-else-self-clause-puts
returns-else-self-clause-puts c = (extended_at (goal.at.returns-else-self-clause-puts c).After-seek c.in-ChainEnd.ensures.lookup.1 c.in-ChainEnd.ensures.lookup.2 c.if-self.false c.extend-entry.ensures.table c.extend-entry.ensures.entry).puts
