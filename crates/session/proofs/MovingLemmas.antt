-- The moves of blocks between the heap and the store, key by key.
use Rattle.std.proofs.Common.{◌≡◌, ℕ, ◌+◌, ◌<◌, ◌≤◌, Bool, true, false, cond, ◌&&◌, ◌||◌, not, List, [], ◌∷◌, length, fold, refl, sym, ap, subst, ◌∙◌, arith}
use Rattle.std.proofs.Math.Bool.{and-false, or-true}
use Rattle.std.specs.Prelude.{Option, None, is_some}
use Rattle.std.specs.List.{IsDistinct, list_any}
use Rattle.std.specs.FinMap.{contains_key, get, get-remove, insert, remove}
use Rattle.std.proofs.lemmas.Map.Keys.{IsDistinct-tail}
use Rattle.voxel_block.specs.declared.key.BlockKey.{BlockKey}
use Rattle.voxel_block.specs.Blocks.{new_block}
use Rattle.voxel_block.specs.Keys.{same_key}
use Rattle.voxel_block.proofs.DistinctKeys.{has_put, not_again}
use Rattle.voxel_block.proofs.KeyLaws.{key_itself, keys_total, same_key_is}
use Rattle.spatial_hash.specs.Contents.{contents}
use Rattle.spatial_hash.specs.Table.{KeepsSize, Table}
use Rattle.streamer.specs.Places.{IsPlaced, Places, blocks_of}
use Rattle.streamer.proofs.Blocks.{has-blocks}
use Rattle.fusion_core.specs.Maps.{BlockMap, touched}
use Rattle.allocator.specs.Rounds.{Cells}
use Rattle.session.specs.Rooms.{Moves}

abbrev pub any : BlockKey → List BlockKey → Bool
any q ks = list_any (same_key q) ks

-- ---- moves

pub same_size : (t : Table) → KeepsSize t t
same_size t = record { buckets = refl; nodes = refl }

pub more_size : (t u v : Table) → KeepsSize t u → KeepsSize u v → KeepsSize t v
more_size t u v a b = record { buckets = b.buckets ∙ a.buckets; nodes = b.nodes ∙ a.nodes }

moves_same : (p : Places) → IsPlaced p → Moves p p
moves_same p placed = record { blocks = refl; cells = refl; size = same_size p.table; opened = refl; placed = placed }

moves_more : (p r s : Places) → Moves p r → Moves r s → Moves p s
moves_more p r s a b = record { blocks = b.blocks ∙ a.blocks; cells = b.cells ∙ a.cells; size = more_size p.table r.table s.table a.size b.size; opened = b.opened ∙ a.opened; placed = b.placed }

-- ---- lists of keys that differ

module _ (k : BlockKey) (rest tail : List BlockKey) (is : rest ≡ k ∷ tail) where
  pub is_first : any k rest ≡ true
  is_first = ap (any k) is ∙ ap (λ x. x || any k tail) (key_itself k)

  pub is_later : (q : BlockKey) → any q tail ≡ true → any q rest ≡ true
  is_later q e = ap (any q) is ∙ ap (λ x. same_key q k || x) e ∙ or-true (same_key q k)

  pub once_more : IsDistinct same_key rest → IsDistinct same_key tail
  once_more once = IsDistinct-tail same_key k tail (subst (IsDistinct same_key) is once)

  -- the first key is none of the others
  pub no_more : IsDistinct same_key rest → (q : BlockKey) → same_key q k ≡ true → any q tail ≡ false
  no_more once q e = ap (λ x. any x tail) (same_key_is q k e) ∙ not_again k tail (subst (IsDistinct same_key) is once)

  one_fewer : length rest ≡ length tail + 1
  one_fewer = ap length is ∙ (omega arith)

-- ---- blocks that leave

pub record Leaving (p r : Places) (ks rest : List BlockKey) (n : ℕ) : Type 0 where
  pub moved : Moves p r
  pub gone : (q : BlockKey) → contains_key (contents r.table) q ≡ (contains_key (contents p.table) q && not (any q ks && not (any q rest)))
  pub only : (q : BlockKey) → any q rest ≡ true → any q ks ≡ true
  pub once : IsDistinct same_key rest
  pub free : length r.heap.free + length rest ≡ length p.heap.free + length ks
  pub packs : n ≡ length rest

none_gone : (x a : Bool) → x ≡ (x && not (a && not a))
none_gone true true = refl
none_gone true false = refl
none_gone false a = refl

all_gone : (x a : Bool) → (x && not (a && not false)) ≡ (x && not a)
all_gone x true = refl
all_gone x false = refl

one_gone : (cs cr x a e t : Bool) → cs ≡ cond e false cr → cr ≡ (x && not (a && not (e || t))) → (e ≡ true → a ≡ true) → (e ≡ true → t ≡ false) → cs ≡ (x && not (a && not t))
one_gone cs cr x a true t s r first last = s ∙ sym ((λ i. x && not (first refl i && not (last refl i))) ∙ and-false x)
one_gone cs cr x a false t s r first last = s ∙ r

pub leaving_start : (p : Places) (ks : List BlockKey) (n : ℕ) → IsPlaced p → IsDistinct same_key ks → n ≡ length ks → Leaving p p ks ks n
leaving_start p ks n placed once packs = record {
  moved = moves_same p placed;
  gone = λ q. none_gone (contains_key (contents p.table) q) (any q ks);
  only = λ q e. e;
  once = once;
  free = refl;
  packs = packs;
}

without : (m : Cells) (k q : BlockKey) → contains_key (remove m k) q ≡ cond (same_key q k) false (contains_key m q)
without m k q = ap is_some (get-remove keys_total m k q) ∙ by (same_key q k) (get m q)
  where
    by : (b : Bool) (o : Option ℕ) → is_some (cond b None o) ≡ cond b false (is_some o)
    by true o = refl
    by false o = refl

pub leaving_next : (p r s : Places) (k : BlockKey) (ks rest tail : List BlockKey) (n m : ℕ) → Leaving p r ks rest n → rest ≡ k ∷ tail → Moves r s → contents s.table ≡ remove (contents r.table) k
    → length s.heap.free ≡ length r.heap.free + 1 → m + 1 ≡ n → Leaving p s ks tail m
leaving_next p r s k ks rest tail n m x is moved left free fewer =
    let shorter = one_fewer k rest tail is in
    let before = x.free in
    let packs = x.packs in
    record {
      moved = moves_more p r s x.moved moved;
      gone = λ q. one_gone _ (contains_key (contents r.table) q) (contains_key (contents p.table) q) (any q ks) (same_key q k) (any q tail)
          (ap (λ t. contains_key t q) left ∙ without (contents r.table) k q)
          (x.gone q ∙ ap (λ ls. contains_key (contents p.table) q && not (any q ks && not (any q ls))) is)
          (λ e. x.only q (ap (any q) is ∙ ap (λ b. b || any q tail) e))
          (no_more k rest tail is x.once q);
      only = λ q e. x.only q (is_later k rest tail is q e);
      once = once_more k rest tail is x.once;
      free = omega (arith, shorter, before, free);
      packs = omega (arith, shorter, packs, fewer);
    }

module _ (p r : Places) (ks rest : List BlockKey) (n : ℕ) (x : Leaving p r ks rest n) where
  -- a key that is still to leave is in the heap
  pub leaving_resident : (k : BlockKey) (tail : List BlockKey) → rest ≡ k ∷ tail → ((q : BlockKey) → any q ks ≡ true → contains_key (contents p.table) q ≡ true) → contains_key (contents r.table) k ≡ true
  leaving_resident k tail is resident =
      let first = is_first k rest tail is in
      x.gone k ∙ (λ i. resident k (x.only k first) i && not (x.only k first i && not (first i)))

  pub leaving_pack : (k : BlockKey) (tail : List BlockKey) → rest ≡ k ∷ tail → 0 < n
  leaving_pack k tail is = (let shorter = one_fewer k rest tail is in let packs = x.packs in omega (arith, shorter, packs))

  pub leaving_left : rest ≡ [] → (q : BlockKey) → contains_key (contents r.table) q ≡ (contains_key (contents p.table) q && not (any q ks))
  leaving_left none q = x.gone q ∙ ap (λ ls. contains_key (contents p.table) q && not (any q ks && not (any q ls))) none ∙ all_gone (contains_key (contents p.table) q) (any q ks)

  pub leaving_free : rest ≡ [] → length r.heap.free ≡ length p.heap.free + length ks
  leaving_free none = (let before = x.free in let no = ap length none in omega (arith, before, no))

-- ---- blocks that come into the heap

-- those of the first keys have come
abbrev pub HasCome : (p r : Places) (ks rest : List BlockKey) → Type 0
HasCome p r ks rest = (q : BlockKey) → contains_key (contents r.table) q ≡ (contains_key (contents p.table) q || (any q ks && not (any q rest)))

none_come : (x a : Bool) → x ≡ (x || (a && not a))
none_come true a = refl
none_come false true = refl
none_come false false = refl

all_come : (x a : Bool) → (x || (a && not false)) ≡ (x || a)
all_come x true = refl
all_come x false = refl

one_come : (cs cr x a e t : Bool) → cs ≡ (e || cr) → cr ≡ (x || (a && not (e || t))) → (e ≡ true → a ≡ true) → (e ≡ true → t ≡ false) → cs ≡ (x || (a && not t))
one_come cs cr x a true t s r first last = s ∙ sym ((λ i. x || (first refl i && not (last refl i))) ∙ or-true x)
one_come cs cr x a false t s r first last = s ∙ r

come_next : (p r s : Places) (k : BlockKey) (ks rest tail : List BlockKey) → HasCome p r ks rest → rest ≡ k ∷ tail → IsDistinct same_key rest → ((q : BlockKey) → any q rest ≡ true → any q ks ≡ true)
    → ((q : BlockKey) → contains_key (contents s.table) q ≡ (same_key q k || contains_key (contents r.table) q)) → HasCome p s ks tail
come_next p r s k ks rest tail come is once only others q =
    one_come _ (contains_key (contents r.table) q) (contains_key (contents p.table) q) (any q ks) (same_key q k) (any q tail) (others q)
    (come q ∙ ap (λ ls. contains_key (contents p.table) q || (any q ks && not (any q ls))) is)
    (λ e. only q (ap (any q) is ∙ ap (λ b. b || any q tail) e))
    (no_more k rest tail is once q)

come_end : (p r : Places) (ks rest : List BlockKey) → rest ≡ [] → HasCome p r ks rest → (q : BlockKey) → contains_key (contents r.table) q ≡ (contains_key (contents p.table) q || any q ks)
come_end p r ks rest none come q = come q ∙ ap (λ ls. contains_key (contents p.table) q || (any q ks && not (any q ls))) none ∙ all_come (contains_key (contents p.table) q) (any q ks)

-- a key that is none of those that came is out of the heap still
still_out : (p r : Places) (k q : BlockKey) → (contains_key (contents r.table) q ≡ false) → (s : Places) → ((x : BlockKey) → contains_key (contents s.table) x ≡ (same_key x k || contains_key (contents r.table) x)) → same_key q k ≡ false → contains_key (contents s.table) q ≡ false
still_out p r k q out s others apart = others q ∙ ap (λ b. b || contains_key (contents r.table) q) apart ∙ out

-- a later key is not the first one
apart : (k : BlockKey) (rest tail : List BlockKey) → rest ≡ k ∷ tail → IsDistinct same_key rest → (q : BlockKey) → any q tail ≡ true → same_key q k ≡ false
apart k rest tail is once q later = by (same_key q k) refl
  where
    by : (b : Bool) → same_key q k ≡ b → b ≡ false
    by true e = absurd (let z : true ≡ false = sym later ∙ no_more k rest tail is once q e in cc)
    by false e = refl

pub record Entering (p r : Places) (ks rest : List BlockKey) : Type 0 where
  pub moved : Moves p r
  pub come : HasCome p r ks rest
  pub out : (q : BlockKey) → any q rest ≡ true → contains_key (contents r.table) q ≡ false
  pub only : (q : BlockKey) → any q rest ≡ true → any q ks ≡ true
  pub once : IsDistinct same_key rest
  pub free : length r.heap.free + length ks ≡ length p.heap.free + length rest

pub entering_start : (p : Places) (ks : List BlockKey) → IsPlaced p → IsDistinct same_key ks → ((q : BlockKey) → any q ks ≡ true → contains_key (contents p.table) q ≡ false) → Entering p p ks ks
entering_start p ks placed once out = record {
  moved = moves_same p placed;
  come = λ q. none_come (contains_key (contents p.table) q) (any q ks);
  out = out;
  only = λ q e. e;
  once = once;
  free = refl;
}

pub entering_next : (p r s : Places) (k : BlockKey) (ks rest tail : List BlockKey) → Entering p r ks rest → rest ≡ k ∷ tail → Moves r s
    → ((q : BlockKey) → contains_key (contents s.table) q ≡ (same_key q k || contains_key (contents r.table) q)) → length s.heap.free + 1 ≡ length r.heap.free → Entering p s ks tail
entering_next p r s k ks rest tail x is moved others free =
    let shorter = one_fewer k rest tail is in
    let before = x.free in
    record {
      moved = moves_more p r s x.moved moved;
      come = come_next p r s k ks rest tail x.come is x.once x.only others;
      out = λ q e. still_out p r k q (x.out q (is_later k rest tail is q e)) s others (apart k rest tail is x.once q e);
      only = λ q e. x.only q (is_later k rest tail is q e);
      once = once_more k rest tail is x.once;
      free = omega (arith, shorter, before, free);
    }

module _ (p r : Places) (ks rest : List BlockKey) (x : Entering p r ks rest) where
  -- a key that is still to enter is in the store
  pub entering_stored : (k : BlockKey) (tail : List BlockKey) → rest ≡ k ∷ tail → ((q : BlockKey) → any q ks ≡ true → contains_key (blocks_of p) q ≡ true) → contains_key r.store.contents k ≡ true
  entering_stored k tail is known =
      let first = is_first k rest tail is in
      ap (λ b. b || contains_key r.store.contents k) (sym (x.out k first)) ∙ sym (has-blocks r k) ∙ ap (λ (m : BlockMap). contains_key m k) x.moved.blocks ∙ known k (x.only k first)

  pub entering_free : (k : BlockKey) (tail : List BlockKey) → rest ≡ k ∷ tail → length ks ≤ length p.heap.free → 0 < length r.heap.free
  entering_free k tail is room = (let shorter = one_fewer k rest tail is in let before = x.free in omega (arith, shorter, before, room))

  pub entering_come : rest ≡ [] → (q : BlockKey) → contains_key (contents r.table) q ≡ (contains_key (contents p.table) q || any q ks)
  entering_come none = come_end p r ks rest none x.come

  pub entering_left : rest ≡ [] → length r.heap.free + length ks ≡ length p.heap.free
  entering_left none = (let before = x.free in let no = ap length none in omega (arith, before, no))

-- ---- new blocks

pub record Making (p r : Places) (ks rest : List BlockKey) : Type 0 where
  pub blocks : fold touched (blocks_of r) rest ≡ fold touched (blocks_of p) ks
  pub come : HasCome p r ks rest
  pub unknown : (q : BlockKey) → any q rest ≡ true → contains_key (blocks_of r) q ≡ false
  pub only : (q : BlockKey) → any q rest ≡ true → any q ks ≡ true
  pub once : IsDistinct same_key rest
  pub free : length r.heap.free + length ks ≡ length p.heap.free + length rest
  pub cells : length r.heap.cells ≡ length p.heap.cells
  pub size : KeepsSize p.table r.table
  pub placed : IsPlaced r

pub making_start : (p : Places) (ks : List BlockKey) → IsPlaced p → IsDistinct same_key ks → ((q : BlockKey) → any q ks ≡ true → contains_key (blocks_of p) q ≡ false) → Making p p ks ks
making_start p ks placed once unknown = record {
  blocks = refl;
  come = λ q. none_come (contains_key (contents p.table) q) (any q ks);
  unknown = unknown;
  only = λ q e. e;
  once = once;
  free = refl;
  cells = refl;
  size = same_size p.table;
  placed = placed;
}

touched_new : (m : BlockMap) (k : BlockKey) → contains_key m k ≡ false → insert m k new_block ≡ touched m k
touched_new m k new = ap (λ b. cond b m (insert m k new_block)) (sym new)

pub making_next : (p r s : Places) (k : BlockKey) (ks rest tail : List BlockKey) → Making p r ks rest → rest ≡ k ∷ tail → blocks_of s ≡ insert (blocks_of r) k new_block
    → ((q : BlockKey) → contains_key (contents s.table) q ≡ (same_key q k || contains_key (contents r.table) q)) → length s.heap.free + 1 ≡ length r.heap.free
    → length s.heap.cells ≡ length r.heap.cells → KeepsSize r.table s.table → IsPlaced s → Making p s ks tail
making_next p r s k ks rest tail x is blocks others free cells size placed =
    let shorter = one_fewer k rest tail is in
    let before = x.free in
    record {
      blocks = ap (λ (m : BlockMap). fold touched m tail) (blocks ∙ touched_new (blocks_of r) k (x.unknown k (is_first k rest tail is))) ∙ ap (fold touched (blocks_of r)) (sym is) ∙ x.blocks;
      come = come_next p r s k ks rest tail x.come is x.once x.only others;
      unknown = λ q e. ap (λ (m : BlockMap). contains_key m q) blocks ∙ has_put (blocks_of r) k q new_block ∙ ap (λ b. b || contains_key (blocks_of r) q) (apart k rest tail is x.once q e) ∙ x.unknown q (is_later k rest tail is q e);
      only = λ q e. x.only q (is_later k rest tail is q e);
      once = once_more k rest tail is x.once;
      free = omega (arith, shorter, before, free);
      cells = cells ∙ x.cells;
      size = more_size p.table r.table s.table x.size size;
      placed = placed;
    }

module _ (p r : Places) (ks rest : List BlockKey) (x : Making p r ks rest) where
  pub making_unknown : (k : BlockKey) (tail : List BlockKey) → rest ≡ k ∷ tail → contains_key (blocks_of r) k ≡ false
  making_unknown k tail is = x.unknown k (is_first k rest tail is)

  pub making_free : (k : BlockKey) (tail : List BlockKey) → rest ≡ k ∷ tail → length ks ≤ length p.heap.free → 0 < length r.heap.free
  making_free k tail is room = (let shorter = one_fewer k rest tail is in let before = x.free in omega (arith, shorter, before, room))

  pub making_come : rest ≡ [] → (q : BlockKey) → contains_key (contents r.table) q ≡ (contains_key (contents p.table) q || any q ks)
  making_come none = come_end p r ks rest none x.come

  pub making_blocks : rest ≡ [] → blocks_of r ≡ fold touched (blocks_of p) ks
  making_blocks none = ap (fold touched (blocks_of r)) (sym none) ∙ x.blocks
