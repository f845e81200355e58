-- What touches add to what a seat has touched.
use Rattle.std.proofs.Common.{◌≡◌, ℕ, zero, suc, get_or, slice_index_or, ◌+◌, ◌<◌, ◌≤◌, true, false, List, [], ◌∷◌, length, refl, sym, ap, ◌∙◌, subst, arith, inl, inr, ◌⊎◌}
use Rattle.std.specs.Prelude.{pos, Some, None, Option, Contains, is_some, Result, Ok}
use Rattle.std.proofs.lemmas.Bool.{cases_lt}
use Rattle.voxel_block.specs.declared.key.BlockKey.{BlockKey}
use Rattle.voxel_block.specs.Words.{key_of, word_of}
use Rattle.fusion_core.specs.TouchCounts.{pairs_at}
use Rattle.fusion_core.specs.TouchSteps.{touched_after}
use Rattle.fusion_core.proofs.TouchPairs.{touched_keeps, touched_more}
use Rattle.hash_share.specs.declared.view.View.{View}
use Rattle.hash_share.specs.declared.touched.Touched.{Touched}
use Rattle.hash_share.specs.declared.touched.Touched.TheVariants.{New, Old, Spent}
use Rattle.hash_share.specs.Steps.{HasPair}
use Rattle.hash_share.specs.Touching.{IsTouched}
use Rattle.band_walk.specs.Memos.{IsNoted}
use Rattle.allocator.specs.Work.{Adds, HasNoted, HasTouched, IsSpentAt, IsWordIn, TouchedAll, TouchedOnly, drawn_by}

abbrev Pairs : Type 0
Pairs = List (ℕ × ℕ)

-- ---- one key

only_one : (b k : BlockKey) → Contains (b ∷ []) k → k ≡ b
only_one b k c = by c.0 c.1 c.2
  where
    by : (i : ℕ) → i < 1 → get_or (b ∷ []) i k ≡ k → k ≡ b
    by zero h e = sym e
    by (suc i) h e = absurd (omega arith)

adds_none : (ks : List BlockKey) (v w : View) → w.touched ≡ v.touched → Adds ks v w
adds_none ks v w is = record {
  kept = λ x e h. subst (λ (ts : Pairs). 0 < pairs_at x e ts) (sym is) h;
  only = λ x e h. inl (subst (λ (ts : Pairs). 0 < pairs_at x e ts) is h);
}

adds_one : (b : BlockKey) (e : ℕ) (v w : View) → key_of (word_of b) ≡ Some b → w.touched ≡ touched_after (word_of b) e (word_of b) v.touched → Adds (b ∷ []) v w
adds_one b e v w named is = record {
  kept = λ x y h. subst (λ (ts : Pairs). 0 < pairs_at x y ts) (sym is) (touched_keeps x y (word_of b) e (word_of b) v.touched h);
  only = λ x y h. touched_more (λ p q. HasPair p q v ⊎ IsWordIn (b ∷ []) p) (word_of b) e (word_of b) v.touched (λ _. inr (record { key = b; among = (0, omega arith, refl); named = named })) (λ p q i. inl i) x y (subst (λ (ts : Pairs). 0 < pairs_at x y ts) is h);
}

pub touch_adds : (b : BlockKey) (v w : View) (t : Touched) → key_of (word_of b) ≡ Some b → IsTouched (word_of b) v w t → Adds (b ∷ []) v w
touch_adds b v w (New e) named is = adds_one b e v w named (ap (λ (z : View). z.touched) is.0)
touch_adds b v w (Old e) named is = adds_one b e v w named (ap (λ (z : View). z.touched) is.0)
touch_adds b v w (Spent d) named is = adds_none (b ∷ []) v w (ap (λ (z : View). z.touched) is.0)

pub touch_has : (b : BlockKey) (v w : View) (t : Touched) → key_of (word_of b) ≡ Some b → IsTouched (word_of b) v w t → drawn_by t ≡ None → HasTouched w b
touch_has b v w (New e) named is none = record { named = named; entry = e; pair = is.2.pair }
touch_has b v w (Old e) named is none = record { named = named; entry = e; pair = is.2.pair }
touch_has b v w (Spent d) named is none = absurd (cc)

pub touch_spent : (b : BlockKey) (n : ℕ) (v w : View) (t : Touched) → v.start.nodes ≡ n → IsTouched (word_of b) v w t → IsSpentAt n w (drawn_by t)
touch_spent b n v w (New e) start is d none = absurd (cc)
touch_spent b n v w (Old e) start is d none = absurd (cc)
touch_spent b n v w (Spent c) start is d some =
    let same : c ≡ d = some_is c d some in
    let mark : w.mark ≡ suc c = ap (λ (z : View). z.mark) is.0 in
    let low : v.start.nodes ≤ c = is.1 in (
      omega arith,
      omega arith,
    )
  where
    some_is : (a b : ℕ) → Some a ≡ Some b → a ≡ b
    some_is a b e = cc

-- ---- a list of keys

pub adds_nothing : (ks : List BlockKey) (v : View) → Adds ks v v
adds_nothing ks v = record { kept = λ x e h. h; only = λ x e h. inl h }

pub adds_then : (ks : List BlockKey) (u v w : View) → Adds ks u v → Adds ks v w → Adds ks u w
adds_then ks u v w a b = record {
  kept = λ x e h. b.kept x e (a.kept x e h);
  only = λ x e h. elim (b.only x e h) [
    | inl old ↦ a.only x e old
    | inr new ↦ inr new
  ];
}

pub adds_within : (ks ls : List BlockKey) (v w : View) → ((b : BlockKey) → Contains ks b → Contains ls b) → Adds ks v w → Adds ls v w
adds_within ks ls v w all a = record {
  kept = a.kept;
  only = λ x e h. elim (a.only x e h) [
    | inl old ↦ inl old
    | inr new ↦ inr (record { key = new.key; among = all new.key new.among; named = new.named })
  ];
}

pub adds_key : (ks : List BlockKey) (b : BlockKey) (v w : View) → Contains ks b → Adds (b ∷ []) v w → Adds ks v w
adds_key ks b v w has a = adds_within (b ∷ []) ks v w (λ k one. subst (Contains ks) (sym (only_one b k one)) has) a

pub still_touched : (ks : List BlockKey) (v w : View) (b : BlockKey) → Adds ks v w → HasTouched v b → HasTouched w b
still_touched ks v w b a h = record { named = h.named; entry = h.entry; pair = a.kept (word_of b) h.entry h.pair }

-- ---- the keys of a list one after another

-- some key, for places that are not in a list
abbrev pub no_key : BlockKey
no_key = record { x = pos 0; y = pos 0; z = pos 0 }

same_there : (ks : List BlockKey) (i : ℕ) (d e : BlockKey) → i < length ks → slice_index_or ks i d ≡ slice_index_or ks i e
same_there [] i d e low = absurd (omega arith)
same_there (k ∷ ks) zero d e low = refl
same_there (k ∷ ks) (suc i) d e low = same_there ks i d e (omega arith)

-- the keys below place i were touched
abbrev pub TouchedBelow : List BlockKey → ℕ → View → Type 0
TouchedBelow ks i v = (b : BlockKey) (j : ℕ) → j < i → slice_index_or ks j b ≡ b → HasTouched v b

pub below_none : (ks : List BlockKey) (v : View) → TouchedBelow ks 0 v
below_none ks v b j low is = absurd (omega arith)

pub key_there : (ks : List BlockKey) (i : ℕ) (d : BlockKey) → i < length ks → Contains ks (slice_index_or ks i d)
key_there ks i d low = (i, low, same_there ks i (slice_index_or ks i d) d low)

pub below_next : (ks : List BlockKey) (i : ℕ) (d : BlockKey) (v w : View) → i < length ks → Adds (slice_index_or ks i d ∷ []) v w → HasTouched w (slice_index_or ks i d) → TouchedBelow ks i v → TouchedBelow ks (i + 1) w
below_next ks i d v w low a last all b j less is = elim (cases_lt j i) [
  | inl before ↦ still_touched (slice_index_or ks i d ∷ []) v w b a (all b j before is)
  | inr after ↦ (
      let same : j ≡ i = omega arith in
      let key : slice_index_or ks i d ≡ b = same_there ks i d b low ∙ subst (λ (k : ℕ). slice_index_or ks k b ≡ b) same is in
      subst (HasTouched w) key last)
]

pub below_all : (ks : List BlockKey) (i : ℕ) (v : View) → length ks ≤ i → TouchedBelow ks i v → TouchedAll ks v
below_all ks i v end all b has = all b has.0 (let low = has.1 in omega (arith, low, end)) has.2

-- a seat that has touched nothing
pub touched_none : (ks : List BlockKey) (v : View) → v.touched ≡ [] → TouchedOnly ks v
touched_none ks v none x e h = absurd (omega (arith, subst (λ (ts : Pairs). 0 < pairs_at x e ts) none h))

pub only_more : (ks : List BlockKey) (v w : View) → Adds ks v w → TouchedOnly ks v → TouchedOnly ks w
only_more ks v w a only x e h = elim (a.only x e h) [
  | inl old ↦ only x e old
  | inr new ↦ new
]

-- ---- answers

pub none_of : {E : Type 0} (r : Option ℕ) → ◌≡◌ {A = Result (Option ℕ) E} (Ok r) (Ok None) → r ≡ None
none_of r e = cc

pub none_from : (r : Option ℕ) → is_some r ≡ false → r ≡ None
none_from None e = refl
none_from (Some d) e = absurd (cc)

pub not_none : (r : Option ℕ) → is_some r ≡ true → r ≡ None → ⊥
not_none None e is = absurd (let z : false ≡ true = e in cc)
not_none (Some d) e is = absurd (cc)

-- ---- a row, some keys of which a memo has noted

module _ (memo : List ℕ) (row keys : List BlockKey) (v w : View) (noted : HasNoted memo v) (a : Adds keys v w) (all : TouchedAll keys w) where
  pub row_touched : ((b : BlockKey) → Contains row b → IsNoted memo b ⊎ Contains keys b) → TouchedAll row w
  row_touched found b has = elim (found b has) [
    | inl old ↦ still_touched keys v w b a (noted b old)
    | inr new ↦ all b new
  ]

  pub noted_next : (memo' : List ℕ) → ((b : BlockKey) → IsNoted memo' b → IsNoted memo b ⊎ Contains keys b) → HasNoted memo' w
  noted_next memo' more b is = elim (more b is) [
    | inl old ↦ still_touched keys v w b a (noted b old)
    | inr new ↦ all b new
  ]
