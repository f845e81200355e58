-- A free entry of a bucket takes a new key.
use Rattle.std.proofs.Common.{◌≡◌, ◌≢◌, ℕ, suc, ◌+◌, ◌*◌, ◌^◌, ◌<◌, ◌≤◌, List, [], ◌∷◌, length, sym, ap, ◌∙◌, arith, inl, inr, get_or, set}
use Rattle.std.proofs.lemmas.Bool.{cases_eq}
use Rattle.std.proofs.lemmas.List.{get_or-set_same, get_or-set_other, length-set}
use Rattle.spatial_hash.specs.Hash.{home}
use Rattle.spatial_hash.specs.Table.{Table, entries_in, key_word, link_word}
use Rattle.spatial_hash.specs.Changes.{written}
use Rattle.spatial_hash.specs.Sound.{IsStep, Leads, EndsAt, IsSound}
use Rattle.spatial_hash.specs.Lookup.{IsFreeAt, IsNew}
use Rattle.spatial_hash.proofs.Places.{nowhere}

-- ---- what is led to stays so where each step stays

abbrev pub with : Table → List ℕ → List ℕ → ℕ → Table
with t ws cs l = record t { words = ws; cells = cs; linked = l }

pub leads_kept : (t : Table) (ws cs : List ℕ) (l h : ℕ) → ((j n : ℕ) → IsStep t h j n → IsStep (with t ws cs l) h j n)
    → (ns : List ℕ) (j k : ℕ) → Leads t h j ns k → Leads (with t ws cs l) h j ns k
leads_kept t ws cs l h f [] j k r = r
leads_kept t ws cs l h f (n ∷ ns) j k r = (f j n r.0, leads_kept t ws cs l h f ns (t.buckets + n) k r.1)

-- ---- keys that differ

abbrev pub Differ : List ℕ → ℕ → Type 0
Differ ws top = (d e : ℕ) → d < top → e < top → 0 < get_or ws d 0 → get_or ws d 0 ≡ get_or ws e 0 → d ≡ e

pub differ_set : (ws : List ℕ) (top at w : ℕ) → at < length ws → ((d : ℕ) → d < top → get_or ws d 0 ≢ w) → Differ ws top → Differ (set ws at w) top
differ_set ws top at w within new old d e ld le f same =
    elim (cases_eq d at) [
      | inl da ↦ elim (cases_eq e at) [
        | inl ea ↦ da ∙ sym ea
        | inr ea ↦ absurd (new e le (sym (get_or-set_other ws at e w 0 ea) ∙ sym same ∙ ap (λ (x : ℕ). get_or (set ws at w) x 0) da ∙ get_or-set_same ws at w 0 within))
      ]
      | inr da ↦ elim (cases_eq e at) [
        | inl ea ↦ absurd (new d ld (sym (get_or-set_other ws at d w 0 da) ∙ same ∙ ap (λ (x : ℕ). get_or (set ws at w) x 0) ea ∙ get_or-set_same ws at w 0 within))
        | inr ea ↦ (
            let kd : get_or (set ws at w) d 0 ≡ get_or ws d 0 = get_or-set_other ws at d w 0 da in
            let ke : get_or (set ws at w) e 0 ≡ get_or ws e 0 = get_or-set_other ws at e w 0 ea in
            old d e ld le (rw kd at f) (sym kd ∙ same ∙ ke))
      ]
    ]

-- ---- a free entry of a bucket

module _ (t : Table) (w c e : ℕ) (s : IsSound t) (new : IsNew t w) (at : IsFreeAt t (home t.buckets w) e) where
  pub low : e < 4 * t.buckets
  low = let p : at.index < 4 = at.low in let q : e ≡ 4 * home t.buckets w + at.index = at.here in let r : home t.buckets w < t.buckets = new.at_home in omega arith

  inside : e < length t.words
  inside = let l = low in let q : length t.words ≡ 5 * t.buckets + 2 * t.nodes = s.wide in omega arith

  pub here : key_word (written t e w c) e ≡ w
  here = get_or-set_same t.words e w 0 inside

  pub there : (d : ℕ) → d ≢ e → key_word (written t e w c) d ≡ key_word t d
  there d ne = get_or-set_other t.words e d w 0 ne

  links : (j : ℕ) → link_word (written t e w c) j ≡ link_word t j
  links j = let l : e < 4 * t.buckets = low in there (4 * t.buckets + t.nodes + j) (λ q. absurd (omega arith))

  node : (n : ℕ) → key_word (written t e w c) (4 * t.buckets + n) ≡ key_word t (4 * t.buckets + n)
  node n = let l : e < 4 * t.buckets = low in there (4 * t.buckets + n) (λ q. absurd (omega arith))

  -- an entry that was filled, or is this one, is filled
  more : (d : ℕ) → 0 < key_word t d → 0 < key_word (written t e w c) d
  more d f =
      elim (cases_eq d e) [
        | inl q ↦ (let h : key_word (written t e w c) d ≡ w = ap (key_word (written t e w c)) q ∙ here in let p : 0 < w = new.some in omega arith)
        | inr ne ↦ (let h : key_word (written t e w c) d ≡ key_word t d = there d ne in omega arith)
      ]

  pub step : (h j n : ℕ) → IsStep t h j n → IsStep (written t e w c) h j n
  step h j n r = record {
    link = links j ∙ r.link;
    low = r.low;
    filled = rw (node n) r.filled;
    at_home = ap (home t.buckets) (node n) ∙ r.at_home;
  }

  leads : (h : ℕ) (ns : List ℕ) (j k : ℕ) → Leads t h j ns k → Leads (written t e w c) h j ns k
  leads h ns j k r = leads_kept t (set t.words e w) (set t.cells e c) t.linked h (step h) ns j k r

  prefixed : (h i : ℕ) → h < t.buckets → i < 3 → 0 < key_word (written t e w c) (4 * h + suc i) → 0 < key_word (written t e w c) (4 * h + i)
  prefixed h i lt li f =
      elim (cases_eq (4 * h + suc i) e) [
        | inl q ↦ (
            let q1 : e ≡ 4 * home t.buckets w + at.index = at.here in
            let q2 : at.index < 4 = at.low in
            let hh : h ≡ home t.buckets w = omega arith in
            let b : 0 < key_word t (4 * home t.buckets w + i) = at.before i (omega arith) in
            more (4 * h + i) (rw hh b))
        | inr ne ↦ more (4 * h + i) (s.prefix h i lt li (rw (there (4 * h + suc i) ne) at f))
      ]

  homed : (h i : ℕ) → h < t.buckets → i < 4 → 0 < key_word (written t e w c) (4 * h + i) → home t.buckets (key_word (written t e w c) (4 * h + i)) ≡ h
  homed h i lt li f =
      elim (cases_eq (4 * h + i) e) [
        | inl q ↦ (
            let q1 : e ≡ 4 * home t.buckets w + at.index = at.here in
            let q2 : at.index < 4 = at.low in
            let hh : home t.buckets w ≡ h = omega arith in
            ap (home t.buckets) (ap (key_word (written t e w c)) q ∙ here) ∙ hh)
        | inr ne ↦ ap (home t.buckets) (there (4 * h + i) ne) ∙ s.at_home h i lt li (rw (there (4 * h + i) ne) at f)
      ]

  named : (d : ℕ) → d < entries_in t → key_word (written t e w c) d ≤ 2 ^ 48
  named d l =
      elim (cases_eq d e) [
        | inl q ↦ (let k : key_word (written t e w c) d ≡ w = ap (key_word (written t e w c)) q ∙ here in let p : w ≤ 2 ^ 48 = new.named in omega arith)
        | inr ne ↦ (let k : key_word (written t e w c) d ≡ key_word t d = there d ne in let p : key_word t d ≤ 2 ^ 48 = s.named d l in omega arith)
      ]

  ended : (h k : ℕ) → EndsAt t h k → EndsAt (written t e w c) h k
  ended h k r = record { over = r.over; leads = leads h r.over h k r.leads; none = links k ∙ r.none; few = r.few }

  pub filled_sound : IsSound (written t e w c)
  filled_sound = record {
    some_buckets = s.some_buckets;
    few_buckets = s.few_buckets;
    few_nodes = s.few_nodes;
    few_linked = s.few_linked;
    wide = length-set t.words e w ∙ s.wide;
    long = length-set t.cells e c ∙ s.long;
    named = named;
    differ = differ_set t.words (entries_in t) e w inside (nowhere t w s new.some new.at_home new.absent) s.differ;
    at_home = homed;
    prefix = prefixed;
    full = λ h lt f. more (4 * h + 3) (s.full h lt (rw (links h) at f));
    ends = λ h lt. ((s.ends h lt).0, ended h (s.ends h lt).0 (s.ends h lt).1);
    placed = λ n lt no. more (4 * t.buckets + n) (s.placed n lt no);
    reached = λ n lt no. rw (node n) ((s.reached n lt no).0, leads (home t.buckets (key_word t (4 * t.buckets + n))) (s.reached n lt no).0 (home t.buckets (key_word t (4 * t.buckets + n))) (t.buckets + n) (s.reached n lt no).1);
    hole = λ n h. absurd h;
    free = λ n a b. (node n ∙ (s.free n a b).0, links (t.buckets + n) ∙ (s.free n a b).1);
  }
