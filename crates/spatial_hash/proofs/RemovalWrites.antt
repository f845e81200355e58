-- The writes of a removal, with the values that were read.
use Rattle.std.proofs.Common.{◌≡◌, ℕ, ◌+◌, ◌-◌, ◌*◌, ◌<◌, List, length, sym, ap, ◌∙◌, arith, get_or, set}
use Rattle.std.proofs.lemmas.List.{get_or-set_other, length-set}
use Rattle.spatial_hash.specs.Table.{Table, entries_in}
use Rattle.spatial_hash.specs.Changes.{taken_to, renumbered, shrunk, cut}
use Rattle.spatial_hash.specs.Sound.{IsSound}
use Rattle.spatial_hash.proofs.Walks.{read_at}

pub entry_read : (t : Table) (e l v w : ℕ) → IsSound t → l < entries_in t → v ≡ get_or t.words l v → w ≡ get_or t.cells l w → IsSound (taken_to t e l)
    → IsSound (record t { words = set (set t.words e v) l 0; cells = set t.cells e w })
entry_read t e l v w s low r c x =
    let wide : length t.words ≡ 5 * t.buckets + 2 * t.nodes = s.wide in
    let long : length t.cells ≡ 4 * t.buckets + t.nodes = s.long in
    let a : v ≡ get_or t.words l 0 = sym (read_at t.words l v (omega arith) r) in
    let b : w ≡ get_or t.cells l 0 = sym (read_at t.cells l w (omega arith) c) in
    rw (a, b) x

pub top_read : (t : Table) (e n p v w : ℕ) → IsSound t → n < t.nodes → v ≡ get_or t.words (4 * t.buckets + n) v → w ≡ get_or t.cells (4 * t.buckets + n) w → IsSound (shrunk (cut t e n p))
    → IsSound (record t { words = set (set (set t.words e v) (4 * t.buckets + n) 0) (4 * t.buckets + t.nodes + p) 0; cells = set t.cells e w; linked = t.linked - 1 })
top_read t e n p v w s low r c x =
    let wide : length t.words ≡ 5 * t.buckets + 2 * t.nodes = s.wide in
    let long : length t.cells ≡ 4 * t.buckets + t.nodes = s.long in
    let a : v ≡ get_or t.words (4 * t.buckets + n) 0 = sym (read_at t.words (4 * t.buckets + n) v (omega arith) r) in
    let b : w ≡ get_or t.cells (4 * t.buckets + n) 0 = sym (read_at t.cells (4 * t.buckets + n) w (omega arith) c) in
    rw (a, b) x

-- the words when the last key was moved, and its node unlinked
abbrev pub unlinked : Table → ℕ → ℕ → ℕ → ℕ → List ℕ
unlinked t e n p v = set (set (set t.words e v) (4 * t.buckets + n) 0) (4 * t.buckets + t.nodes + p) 0

pub below_read : (t : Table) (e n p m q v w v2 w2 v3 : ℕ) → IsSound t → n < t.nodes → m < t.nodes
    → v ≡ get_or t.words (4 * t.buckets + n) v → w ≡ get_or t.cells (4 * t.buckets + n) w
    → v2 ≡ get_or (unlinked t e n p v) (4 * t.buckets + m) v2 → w2 ≡ get_or (set t.cells e w) (4 * t.buckets + m) w2
    → v3 ≡ get_or (set (set (unlinked t e n p v) (4 * t.buckets + n) v2) (4 * t.buckets + m) 0) (4 * t.buckets + t.nodes + t.buckets + m) v3
    → IsSound (shrunk (renumbered (cut t e n p) n m q))
    → IsSound (record t {
      words = set (set (set (set (set (unlinked t e n p v) (4 * t.buckets + n) v2) (4 * t.buckets + m) 0) (4 * t.buckets + t.nodes + t.buckets + n) v3) (4 * t.buckets + t.nodes + t.buckets + m) 0) (4 * t.buckets + t.nodes + q) (n + 1);
      cells = set (set t.cells e w) (4 * t.buckets + n) w2;
      linked = t.linked - 1;
    })
below_read t e n p m q v w v2 w2 v3 s ln lm r c r2 c2 r3 x =
    let wide : length t.words ≡ 5 * t.buckets + 2 * t.nodes = s.wide in
    let long : length t.cells ≡ 4 * t.buckets + t.nodes = s.long in
    let wide2 : length (unlinked t e n p v) ≡ 5 * t.buckets + 2 * t.nodes = length-set (set (set t.words e v) (4 * t.buckets + n) 0) (4 * t.buckets + t.nodes + p) 0 ∙ length-set (set t.words e v) (4 * t.buckets + n) 0 ∙ length-set t.words e v ∙ s.wide in
    let wide3 : length (set (set (unlinked t e n p v) (4 * t.buckets + n) v2) (4 * t.buckets + m) 0) ≡ 5 * t.buckets + 2 * t.nodes = length-set (set (unlinked t e n p v) (4 * t.buckets + n) v2) (4 * t.buckets + m) 0 ∙ length-set (unlinked t e n p v) (4 * t.buckets + n) v2 ∙ wide2 in
    let long2 : length (set t.cells e w) ≡ 4 * t.buckets + t.nodes = length-set t.cells e w ∙ s.long in
    let a : v ≡ get_or t.words (4 * t.buckets + n) 0 = sym (read_at t.words (4 * t.buckets + n) v (omega arith) r) in
    let b : w ≡ get_or t.cells (4 * t.buckets + n) 0 = sym (read_at t.cells (4 * t.buckets + n) w (omega arith) c) in
    let a2 : v2 ≡ get_or (unlinked t e n p v) (4 * t.buckets + m) 0 = sym (read_at (unlinked t e n p v) (4 * t.buckets + m) v2 (omega arith) r2) in
    let b2 : w2 ≡ get_or (set t.cells e w) (4 * t.buckets + m) 0 = sym (read_at (set t.cells e w) (4 * t.buckets + m) w2 (omega arith) c2) in
    let i : 4 * t.buckets + t.nodes + t.buckets + n ≡ 4 * t.buckets + t.nodes + (t.buckets + n) = omega arith in
    let j : 4 * t.buckets + t.nodes + t.buckets + m ≡ 4 * t.buckets + t.nodes + (t.buckets + m) = omega arith in
    let a3 : v3 ≡ get_or (unlinked t e n p v) (4 * t.buckets + t.nodes + (t.buckets + m)) 0 =
    sym (read_at (set (set (unlinked t e n p v) (4 * t.buckets + n) v2) (4 * t.buckets + m) 0) (4 * t.buckets + t.nodes + t.buckets + m) v3 (omega arith) r3)
    ∙ ap (λ (k : ℕ). get_or (set (set (unlinked t e n p v) (4 * t.buckets + n) v2) (4 * t.buckets + m) 0) k 0) j
    ∙ get_or-set_other (set (unlinked t e n p v) (4 * t.buckets + n) v2) (4 * t.buckets + m) (4 * t.buckets + t.nodes + (t.buckets + m)) 0 0 (λ z. absurd (omega arith))
    ∙ get_or-set_other (unlinked t e n p v) (4 * t.buckets + n) (4 * t.buckets + t.nodes + (t.buckets + m)) v2 0 (λ z. absurd (omega arith)) in
    rw (i, j, a3, b2, a2, b, a) x
