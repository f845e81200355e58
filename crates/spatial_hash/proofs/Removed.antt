-- After a removal a table is sound, and its map is the same without the key.
use Rattle.std.proofs.Common.{◌≡◌, ◌≢◌, ℕ, suc, ◌+◌, ◌*◌, ◌<◌, ◌≤◌, length, refl, sym, ap, ◌∙◌, arith, inl, inr}
use Rattle.std.specs.Prelude.{Some, None, slice_index}
use Rattle.std.specs.FinMap.{remove}
use Rattle.std.proofs.lemmas.Bool.{cases_eq, cases_lt}
use Rattle.std.proofs.lemmas.List.{get_or-set_same, get_or-set_other}
use Rattle.voxel_block.specs.declared.key.BlockKey.{BlockKey}
use Rattle.voxel_block.specs.Words.{key_of}
use Rattle.spatial_hash.specs.Hash.{home}
use Rattle.spatial_hash.specs.Table.{Table, entries_in, key_word, link_word}
use Rattle.spatial_hash.specs.Changes.{taken_to, renumbered, shrunk, cut}
use Rattle.spatial_hash.specs.Contents.{contents}
use Rattle.spatial_hash.specs.Sound.{IsStep, Leads, IsSound, IsSoundBut}
use Rattle.spatial_hash.specs.Removal.{IsLast, IsBucketEnd, IsChainEnd, LeadsTo}
use Rattle.spatial_hash.proofs.Maps.{Unlike, one_entry, contents_same, contents_drop}
use Rattle.spatial_hash.proofs.Homes.{home_low}
use Rattle.spatial_hash.proofs.Chains.{not_through}
use Rattle.spatial_hash.proofs.Removing.{shrunk_sound, bucket_sound, cut_sound, cut_step, cut_leads, cut_key, key_other, key_here, not_last, from, taken_differ}
use Rattle.spatial_hash.proofs.Moving.{moved_sound, key_to, key_from, key_kept}

-- ---- sound

pub entry_sound : (t : Table) (h e l : ℕ) → IsSound t → h < t.buckets → IsLast t h e l → IsBucketEnd t h l → link_word t h ≡ 0 → IsSound (taken_to t e l)
entry_sound t h e l s lh x b z = bucket_sound t h e l s x b.index lh b.low b.here b.after z

pub but_sound : (t : Table) (h e n p : ℕ) → IsSound t → h < t.buckets → IsLast t h e (4 * t.buckets + n) → IsChainEnd t h n p → IsSoundBut (cut t e n p) (λ m. m ≡ n)
but_sound t h e n p s lh x c = cut_sound t h e (4 * t.buckets + n) s x n p lh refl c.over c.leads c.step c.none

pub top_sound : (t : Table) (h e n p : ℕ) → IsSound t → h < t.buckets → IsLast t h e (4 * t.buckets + n) → IsChainEnd t h n p → n + 1 ≡ t.linked → IsSound (shrunk (cut t e n p))
top_sound t h e n p s lh x c top = shrunk_sound (cut t e n p) n (but_sound t h e n p s lh x c) (omega arith)

-- the same link leads to the highest node as before
module _ (t : Table) (h e n p m q : ℕ) (s : IsSound t) (lh : h < t.buckets) (x : IsLast t h e (4 * t.buckets + n)) (c : IsChainEnd t h n p)
    (top : m + 1 ≡ t.linked) (other : n ≢ m) (led : LeadsTo t (home t.buckets (key_word t (4 * t.buckets + m))) m q) where
  abbrev g : ℕ
  g = home t.buckets (key_word t (4 * t.buckets + m))

  low_g : g < t.buckets
  low_g = home_low t.buckets (key_word t (4 * t.buckets + m)) s.some_buckets

  q_other : q ≢ t.buckets + n
  q_other z = let a : link_word t q ≡ suc m = led.step.link in let b : link_word t q ≡ 0 = ap (link_word t) z ∙ c.none in absurd (omega arith)

  before : Leads (cut t e n p) g g led.over q
  before = cut_leads t h e (4 * t.buckets + n) s x n p lh refl c.over c.leads c.step c.none g led.over g q (not_through t g led.over g q n led.leads c.none q_other) led.leads

  here : IsStep (cut t e n p) g q m
  here = cut_step t h e (4 * t.buckets + n) s x n p lh refl c.over c.leads c.step c.none g q m (λ z. other (sym z)) led.step

  pub moved_but : IsSoundBut (renumbered (cut t e n p) n m q) (λ x. x ≡ m)
  moved_but = moved_sound (cut t e n p) g n m q (but_sound t h e n p s lh x c) low_g (omega arith) (λ z. other (sym z)) led.over before here

  pub below_sound : IsSound (shrunk (renumbered (cut t e n p) n m q))
  below_sound = shrunk_sound (renumbered (cut t e n p) n m q) m moved_but (omega arith)

  -- ---- the moved node's key is still there

  moved_map : contents (renumbered (cut t e n p) n m q) ≡ contents (cut t e n p)
  moved_map =
      let u = cut t e n p in
      let b = but_sound t h e n p s lh x c in
      let v = renumbered (cut t e n p) n m q in
      let many : t.linked ≤ t.nodes = s.few_linked in
      let ln : n < t.linked = (b.hole n refl).0 in
      let long : length u.cells ≡ 4 * t.buckets + t.nodes = b.long in
      let nm : m ≢ n = λ z. other (sym z) in
      let to-key = key_to u g n m q b low_g (omega arith) nm led.over before here in
      let from-key = key_from u g n m q b low_g (omega arith) nm led.over before here in
      let kept-key = key_kept u g n m q b low_g (omega arith) nm led.over before here in
      contents_same u v b.differ moved_but.differ
      (λ k y w. elim (cases_eq w.at (4 * t.buckets + n)) [
        | inl z ↦ (let o : ◌≡◌ None (Some k) = sym (ap key_of (b.hole n refl).1) ∙ ap (λ (d : ℕ). key_of (key_word u d)) (sym z) ∙ w.key in absurd (cc))
        | inr zn ↦ elim (cases_eq w.at (4 * t.buckets + m)) [
          | inl z ↦ record {
            at = 4 * t.buckets + n;
            low = omega arith;
            key = ap key_of to-key ∙ ap (λ (d : ℕ). key_of (key_word u d)) (sym z) ∙ w.key;
            cell = get_or-set_same u.cells (4 * t.buckets + n) (slice_index u.cells (4 * t.buckets + m)) 0 (omega arith) ∙ ap (slice_index u.cells) (sym z) ∙ w.cell;
          }
          | inr zm ↦ record {
            at = w.at;
            low = w.low;
            key = ap key_of (kept-key w.at w.low zn zm) ∙ w.key;
            cell = get_or-set_other u.cells (4 * t.buckets + n) w.at (slice_index u.cells (4 * t.buckets + m)) 0 zn ∙ w.cell;
          }
        ]
      ])
      (λ k y w. elim (cases_eq w.at (4 * t.buckets + m)) [
        | inl z ↦ (let o : ◌≡◌ None (Some k) = sym (ap key_of from-key) ∙ ap (λ (d : ℕ). key_of (key_word v d)) (sym z) ∙ w.key in absurd (cc))
        | inr zm ↦ elim (cases_eq w.at (4 * t.buckets + n)) [
          | inl z ↦ record {
            at = 4 * t.buckets + m;
            low = omega arith;
            key = ap key_of (sym to-key) ∙ ap (λ (d : ℕ). key_of (key_word v d)) (sym z) ∙ w.key;
            cell = sym (get_or-set_same u.cells (4 * t.buckets + n) (slice_index u.cells (4 * t.buckets + m)) 0 (omega arith)) ∙ ap (slice_index v.cells) (sym z) ∙ w.cell;
          }
          | inr zn ↦ record {
            at = w.at;
            low = w.low;
            key = ap key_of (sym (kept-key w.at w.low zn zm)) ∙ w.key;
            cell = sym (get_or-set_other u.cells (4 * t.buckets + n) w.at (slice_index u.cells (4 * t.buckets + m)) 0 zn) ∙ w.cell;
          }
        ]
      ])

-- ---- the map

-- a table with the same keys and cells, and another count or other links
alike : (t u : Table) → Unlike t → Unlike u → entries_in u ≡ entries_in t → ((d : ℕ) → d < entries_in t → key_word u d ≡ key_word t d) → ((d : ℕ) → slice_index u.cells d ≡ slice_index t.cells d) → contents u ≡ contents t
alike t u a b size keys cells =
    contents_same t u a b
    (λ k y w. (let l : w.at < entries_in t = w.low in record { at = w.at; low = rw size l; key = ap key_of (keys w.at l) ∙ w.key; cell = cells w.at ∙ w.cell }))
    (λ k y w. (let l : w.at < entries_in u = w.low in let l2 : w.at < entries_in t = rw size at l in record { at = w.at; low = l2; key = ap key_of (sym (keys w.at l2)) ∙ w.key; cell = sym (cells w.at) ∙ w.cell }))

module _ (t : Table) (h e l : ℕ) (s : IsSound t) (x : IsLast t h e l) (k : BlockKey) (is : key_of (key_word t e) ≡ Some k) where
  cell_here : slice_index (taken_to t e l).cells e ≡ slice_index t.cells l
  cell_here = let long : length t.cells ≡ 4 * t.buckets + t.nodes = s.long in let lo : e < entries_in t = x.low in get_or-set_same t.cells e (slice_index t.cells l) 0 (omega arith)

  cell_other : (d : ℕ) → d ≢ e → slice_index (taken_to t e l).cells d ≡ slice_index t.cells d
  cell_other d ne = get_or-set_other t.cells e d (slice_index t.cells l) 0 ne

  filled_of : (d : ℕ) (q : BlockKey) → key_of (key_word (taken_to t e l) d) ≡ Some q → 0 < key_word (taken_to t e l) d
  filled_of d q w =
      elim (cases_lt 0 (key_word (taken_to t e l) d)) [
        | inl f ↦ f
        | inr z ↦ (let zero_key : key_word (taken_to t e l) d ≡ 0 = omega arith in let o : ◌≡◌ None (Some q) = sym (ap key_of zero_key) ∙ w in absurd (cc))
      ]

  pub taken_map : contents (taken_to t e l) ≡ remove (contents t) k
  taken_map =
      contents_drop t (taken_to t e l) k s.differ (taken_differ t e l s.wide x.low x.last_low s.differ)
      (λ q y ne w.
      let de : w.at ≢ e = λ z. (let o : Some q ≡ Some k = sym w.key ∙ ap (λ (d : ℕ). key_of (key_word t d)) z ∙ is in let o2 : q ≡ k = cc in ne o2) in
      elim (cases_eq w.at l) [
        | inl z ↦ (
            let el : e ≢ l = λ r. de (z ∙ sym r) in
            record { at = e; low = x.low; key = ap key_of (key_here t e l s.wide x.low x.last_low el) ∙ ap (λ (d : ℕ). key_of (key_word t d)) (sym z) ∙ w.key; cell = cell_here ∙ ap (slice_index t.cells) (sym z) ∙ w.cell })
        | inr dl ↦ record { at = w.at; low = w.low; key = ap key_of (key_other t e l s.wide x.low x.last_low w.at de dl) ∙ w.key; cell = cell_other w.at de ∙ w.cell }
      ])
      (λ q y w.
      let f = filled_of w.at q w.key in
      let nl = not_last t e l s.wide x.low x.last_low w.at f in
      let p = from t e l s.wide x.low x.last_low w.at w.low f in
      let kp : key_of (key_word t p.0) ≡ Some q = ap key_of (sym p.2) ∙ w.key in
      let far : p.0 ≢ e = λ z. elim p.3 [ inl i ↦ nl (i.0 ∙ sym z ∙ i.1) | inr i ↦ i.0 (sym i.2 ∙ z) ] in (
        (λ same. far (one_entry t k p.0 e s.differ p.1 x.low (kp ∙ ap Some same) is)),
        record {
          at = p.0;
          low = p.1;
          key = kp;
          cell = elim p.3 [
            | inl i ↦ ap (slice_index t.cells) i.1 ∙ sym cell_here ∙ ap (slice_index (taken_to t e l).cells) (sym i.0) ∙ w.cell
            | inr i ↦ ap (slice_index t.cells) i.2 ∙ sym (cell_other w.at i.0) ∙ w.cell
          ];
        },
      ))

module _ (t : Table) (h e n p : ℕ) (s : IsSound t) (lh : h < t.buckets) (x : IsLast t h e (4 * t.buckets + n)) (c : IsChainEnd t h n p) (k : BlockKey) (is : key_of (key_word t e) ≡ Some k) where
  cut_map : contents (cut t e n p) ≡ remove (contents t) k
  cut_map =
      alike (taken_to t e (4 * t.buckets + n)) (cut t e n p) (taken_differ t e (4 * t.buckets + n) s.wide x.low x.last_low s.differ) (but_sound t h e n p s lh x c).differ refl
      (cut_key t h e (4 * t.buckets + n) s x n p lh refl c.over c.leads c.step c.none) (λ d. refl)
      ∙ taken_map t h e (4 * t.buckets + n) s x k is

  pub top_map : n + 1 ≡ t.linked → contents (shrunk (cut t e n p)) ≡ remove (contents t) k
  top_map top = alike (cut t e n p) (shrunk (cut t e n p)) (but_sound t h e n p s lh x c).differ (top_sound t h e n p s lh x c top).differ refl (λ d _. refl) (λ d. refl) ∙ cut_map

  pub below_map : (m q : ℕ) → m + 1 ≡ t.linked → n ≢ m → LeadsTo t (home t.buckets (key_word t (4 * t.buckets + m))) m q → contents (shrunk (renumbered (cut t e n p) n m q)) ≡ remove (contents t) k
  below_map m q top other led =
      alike (renumbered (cut t e n p) n m q) (shrunk (renumbered (cut t e n p) n m q)) (moved_but t h e n p m q s lh x c top other led).differ (below_sound t h e n p m q s lh x c top other led).differ refl (λ d _. refl) (λ d. refl)
      ∙ moved_map t h e n p m q s lh x c top other led ∙ cut_map
