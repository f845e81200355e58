-- A touch goes on from a view that has seen more.
use Rattle.std.proofs.Common.{◌≡◌, ℕ, List, ◌++◌, ◌∷◌, sym, ap, ◌∙◌, subst}
use Rattle.std.proofs.lemmas.List.{append_assoc}
use Rattle.hash_share.specs.declared.view.View.{View}
use Rattle.hash_share.specs.declared.touched.Touched.{Touched}
use Rattle.hash_share.specs.declared.touched.Touched.TheVariants.{New, Old, Spent}
use Rattle.hash_share.specs.Touching.{Roams, FoundLast, IsTouched}

last-since : (k e : ℕ) (v w x : View) (later : List (ℕ × ℕ)) → w.looks ≡ later ++ v.looks → FoundLast k e w x → FoundLast k e v x
last-since k e v w x later is f =
    record { others = f.others ++ later; looks = f.looks ∙ ap (λ (l : List (ℕ × ℕ)). (e, k) ∷ (f.others ++ l)) is ∙ ap (λ (l : List (ℕ × ℕ)). (e, k) ∷ l) (sym (append_assoc f.others later v.looks)) }

touched-by : (k : ℕ) (v x : View) (us : List ℕ) (ls ns later : List (ℕ × ℕ)) (t : Touched) → ls ≡ later ++ v.looks → IsTouched k (record v { seen = us; looks = ls; nodes = ns }) x t → IsTouched k v x t
touched-by k v x us ls ns later (New e) is q = q
touched-by k v x us ls ns later (Old e) is q = (q.0, q.1, q.2, last-since k e v (record v { seen = us; looks = ls; nodes = ns }) x later is q.3)
touched-by k v x us ls ns later (Spent d) is q = q

pub roamed : (k : ℕ) (v w x : View) (t : Touched) → Roams v w → IsTouched k w x t → IsTouched k v x t
roamed k v w x t r q = touched-by k v x w.seen w.looks w.nodes r.1.0 t r.1.1 (subst (λ (z : View). IsTouched k z x t) r.0 q)

pub roams-on : (v w x : View) → Roams v w → Roams w x → Roams v x
roams-on v w x p q = (
  q.0 ∙ ap (λ (z : View). record z { seen = x.seen; looks = x.looks; nodes = x.nodes }) p.0,
  (q.1.0 ++ p.1.0, q.1.1 ∙ ap (λ (l : List (ℕ × ℕ)). q.1.0 ++ l) p.1.1 ∙ sym (append_assoc q.1.0 p.1.0 v.looks)),
)

-- a touch leaves the part
pub touched_part : (k : ℕ) (v w : View) (t : Touched) → IsTouched k v w t → w.part ≡ v.part
touched_part k v w (New e) is = ap (λ (z : View). z.part) is.0
touched_part k v w (Old e) is = ap (λ (z : View). z.part) is.0
touched_part k v w (Spent d) is = ap (λ (z : View). z.part) is.0
