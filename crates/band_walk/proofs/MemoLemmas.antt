-- What is noted in a memo, and what is added to it and to a list of keys.
use Rattle.std.proofs.Common.{◌≡◌, ◌≢◌, ℕ, ◌<◌, ◌⊎◌, inl, inr, List, [], ◌∷◌, ◌++◌, length, get_or, set, replicate, sym, ap, ◌∙◌, subst, get_or-set_other, get_or-set_same, arith, length-set}
use Rattle.std.specs.Prelude.{Option, None, Some, Contains}
use Rattle.std.proofs.lemmas.Bool.{cases_eq}
use Rattle.std.proofs.lemmas.List.{get_or-replicate, length-replicate}
use Rattle.std.proofs.lemmas.List.Elements.{Contains-append_left, Contains-append_right, Contains-append_cases, Contains-push, Contains-push_cases}
use Rattle.voxel_block.specs.declared.key.BlockKey.{BlockKey}
use Rattle.voxel_block.specs.Words.{key_of}
use Rattle.band_walk.specs.Memos.{IsNoted, IsGrown, HasAdded}

-- ---- a memo

-- nothing is noted in an empty memo
pub none_noted : (memo : List ℕ) (n : ℕ) → memo ≡ replicate n 0 → (b : BlockKey) → ¬ IsNoted memo b
none_noted memo n is b noted =
    let low : noted.at < n = subst (λ l. noted.at < l) (ap length is ∙ length-replicate n 0) noted.inside in
    let zero : get_or memo noted.at 0 ≡ 0 = ap (λ m. get_or m noted.at 0) is ∙ get_or-replicate n noted.at 0 0 low in
    let none : None ≡ Some b = ap key_of (sym zero) ∙ noted.is in
    absurd (cc)

-- what is noted once a word is written
pub noted_more : (memo memo' : List ℕ) (at w : ℕ) → at < length memo → memo' ≡ set memo at w → (b : BlockKey) → IsNoted memo' b → IsNoted memo b ⊎ (key_of w ≡ Some b)
noted_more memo memo' at w low is b noted = by (cases_eq noted.at at)
  where
    read : key_of (get_or (set memo at w) noted.at 0) ≡ Some b
    read = subst (λ m. key_of (get_or m noted.at 0) ≡ Some b) is noted.is

    by : (noted.at ≡ at) ⊎ (noted.at ≢ at) → IsNoted memo b ⊎ (key_of w ≡ Some b)
    by (inl e) =
        let there : get_or (set memo at w) noted.at 0 ≡ w = ap (λ i. get_or (set memo at w) i 0) e ∙ get_or-set_same memo at w 0 low in
        inr (subst (λ x. key_of x ≡ Some b) there read)
    by (inr ne) = inl (record {
      at = noted.at;
      inside = subst (λ l. noted.at < l) (ap length is ∙ length-set memo at w) noted.inside;
      is = subst (λ x. key_of x ≡ Some b) (get_or-set_other memo at noted.at w 0 ne) read;
    })

-- ---- growth

pub grown_none : (memo : List ℕ) (keys : List BlockKey) → IsGrown memo keys memo keys
grown_none memo keys = record { noted = λ b n. inl n; kept = λ b c. c }

pub grown_more : (m m' m'' : List ℕ) (k k' k'' : List BlockKey) → IsGrown m k m' k' → IsGrown m' k' m'' k'' → IsGrown m k m'' k''
grown_more m m' m'' k k' k'' a b = record { noted = λ x n. by x (b.noted x n); kept = λ x c. b.kept x (a.kept x c) }
  where
    before : (x : BlockKey) → IsNoted m x ⊎ Contains k' x → IsNoted m x ⊎ Contains k'' x
    before x (inl n) = inl n
    before x (inr c) = inr (b.kept x c)

    by : (x : BlockKey) → IsNoted m' x ⊎ Contains k'' x → IsNoted m x ⊎ Contains k'' x
    by x (inl n) = before x (a.noted x n)
    by x (inr c) = inr c

pub added_none : (m : List ℕ) (k : List BlockKey) → HasAdded [] m k m k
added_none m k = record { found = λ b c. absurd (omega (arith, c.1)); only = λ b c. inl c; grown = grown_none m k }

pub added_more : (bs cs : List BlockKey) (m m' m'' : List ℕ) (k k' k'' : List BlockKey) → HasAdded bs m k m' k' → HasAdded cs m' k' m'' k'' → HasAdded (bs ++ cs) m k m'' k''
added_more bs cs m m' m'' k k' k'' a b = record { found = λ x c. by_found x (Contains-append_cases bs cs x c); only = λ x c. by_only x (b.only x c); grown = grown_more m m' m'' k k' k'' a.grown b.grown }
  where
    later : (x : BlockKey) → IsNoted m x ⊎ Contains k' x → IsNoted m x ⊎ Contains k'' x
    later x (inl n) = inl n
    later x (inr c) = inr (b.grown.kept x c)

    second : (x : BlockKey) → IsNoted m' x ⊎ Contains k'' x → IsNoted m x ⊎ Contains k'' x
    second x (inl n) = later x (a.grown.noted x n)
    second x (inr c) = inr c

    by_found : (x : BlockKey) → Contains bs x ⊎ Contains cs x → IsNoted m x ⊎ Contains k'' x
    by_found x (inl c) = later x (a.found x c)
    by_found x (inr c) = second x (b.found x c)

    first : (x : BlockKey) → Contains k x ⊎ Contains bs x → Contains k x ⊎ Contains (bs ++ cs) x
    first x (inl c) = inl c
    first x (inr c) = inr (Contains-append_left bs cs x c)

    by_only : (x : BlockKey) → Contains k' x ⊎ Contains cs x → Contains k x ⊎ Contains (bs ++ cs) x
    by_only x (inl c) = first x (a.only x c)
    by_only x (inr c) = inr (Contains-append_right bs cs x c)

-- ---- one key

only_one : (key b : BlockKey) → Contains (key ∷ []) b → key ≡ b
only_one key b c = by (Contains-push_cases [] key b c)
  where
    by : Contains [] b ⊎ (key ≡ b) → key ≡ b
    by (inl none) = absurd (omega (arith, none.1))
    by (inr e) = e

-- a key that was noted
pub added_noted : (m : List ℕ) (k : List BlockKey) (key : BlockKey) → IsNoted m key → HasAdded (key ∷ []) m k m k
added_noted m k key n = record { found = λ b c. inl (subst (IsNoted m) (only_one key b c) n); only = λ b c. inl c; grown = grown_none m k }

-- a key that was pushed and noted, by its word w
pub added_pushed : (m m' : List ℕ) (k k' : List BlockKey) (w : ℕ) (key : BlockKey) → key_of w ≡ Some key → k' ≡ k ++ key ∷ [] → ((b : BlockKey) → IsNoted m' b → IsNoted m b ⊎ (key_of w ≡ Some b)) → HasAdded (key ∷ []) m k m' k'
added_pushed m m' k k' w key word is noted = record {
  found = λ b c. inr (subst (λ ks. Contains ks b) (sym is) (Contains-append_right k (key ∷ []) b c));
  only = λ b c. Contains-append_cases k (key ∷ []) b (subst (λ ks. Contains ks b) is c);
  grown = record { noted = λ b n. by b (noted b n); kept = λ b c. subst (λ ks. Contains ks b) (sym is) (Contains-append_left k (key ∷ []) b c) };
}
  where
    same : (b : BlockKey) (o : Option BlockKey) → o ≡ Some key → o ≡ Some b → key ≡ b
    same b o e f = cc

    by : (b : BlockKey) → IsNoted m b ⊎ (key_of w ≡ Some b) → IsNoted m b ⊎ Contains k' b
    by b (inl n) = inl n
    by b (inr e) = inr (subst (Contains k') (same b (key_of w) word e) (subst (λ ks. Contains ks key) (sym is) (Contains-push k key)))

-- keys and memo as they were, where no key could be pushed
pub grown_same : (m m' : List ℕ) (k k' : List BlockKey) → m' ≡ m → k' ≡ k → IsGrown m k m' k'
grown_same m m' k k' em ek = record { noted = λ b n. inl (subst (λ x. IsNoted x b) em n); kept = λ b c. subst (λ x. Contains x b) (sym ek) c }
