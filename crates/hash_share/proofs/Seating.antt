-- A touch over the entries of a bucket.
use Rattle.std.proofs.Common.{◌≡◌, ℕ, ◌*◌, ◌<◌, List, [], ◌∷◌, ◌++◌, length, map, Bool, sym, ap, ◌∙◌, arith, subst}
use Rattle.spatial_hash.specs.Hash.{home}
use Rattle.spatial_hash.specs.Table.{Table}
use Rattle.hash_share.specs.declared.view.View.{View}
use Rattle.hash_share.specs.declared.spot.Spot.{Spot}
use Rattle.hash_share.specs.declared.spot.Spot.TheVariants.{Placed, Seen, Full}
use Rattle.hash_share.specs.declared.touched.Touched.{Touched}
use Rattle.hash_share.specs.declared.touched.Touched.TheVariants.{New, Old}
use Rattle.fusion_core.specs.TouchSteps.{touched_after}
use Rattle.fusion_core.specs.TouchWords.{shown, Passes}
use Rattle.hash_share.specs.Steps.{Held}
use Rattle.hash_share.specs.Touching.{IsTied, IsSpot, IsTouched}
use Rattle.hash_share.proofs.Roaming.{roamed}

-- the parts of a view that a walk over a bucket leaves
record IsSame (v w : View) : Type 0 where
  part : w.part ≡ v.part
  start : w.start ≡ v.start
  nodes : w.nodes ≡ v.nodes
  mark : w.mark ≡ v.mark

same-parts : (v w : View) (us : List ℕ) (ls ts : List (ℕ × ℕ)) (ps : List ℕ) → w ≡ record v { seen = us; looks = ls; touched = ts; placed = ps } → IsSame v w
same-parts v w us ls ts ps is = record { part = ap (λ (z : View). z.part) is; start = ap (λ (z : View). z.start) is; nodes = ap (λ (z : View). z.nodes) is; mark = ap (λ (z : View). z.mark) is }

same-by : (k : ℕ) (v w : View) (p : Spot) → IsSpot k v w p → IsSame v w
same-by k v w (Placed e) s = same-parts v w w.seen w.looks _ _ s.0
same-by k v w (Seen e) s = same-parts v w w.seen w.looks _ v.placed s.0
same-by k v w Full s = same-parts v w w.seen w.looks v.touched v.placed s.0.view

pub tied_bucket : (start : Table) (m n : Held) (spares : List ℕ) (marked : Bool) (k : ℕ) (p : Spot) → IsTied start m spares marked → IsSpot k m.0 n.0 p → n.1 ≡ m.1 → length n.0.seen ≡ length m.0.seen → IsTied start n spares marked
tied_bucket start m n spares marked k p t s slots wide =
    let e = same-by k m.0 n.0 p s in
    record {
      slots = slots ∙ t.slots;
      part = subst (λ (x : ℕ). 0 < x) (sym e.part) t.part;
      begun = e.start ∙ t.begun;
      wide = wide ∙ t.wide;
      nodes = ap (λ (l : List (ℕ × ℕ)). map (λ (q : ℕ × ℕ). q.0) l) e.nodes ∙ t.nodes;
      low = t.low;
      has_mark = λ b. subst (λ (x : ℕ). 0 < x) (sym e.mark) (t.has_mark b);
      no_mark = λ b. e.mark ∙ t.no_mark b;
    }

pub spot_new : (k e b : ℕ) (v w : View) → IsSpot k v w (Placed e) → e < 4 * b → b ≡ v.start.buckets → IsTouched k v w (New e)
spot_new k e b v w s low is =
    let F : List (ℕ × ℕ) → View = λ ns. record v { seen = w.seen; looks = w.looks; touched = touched_after k e k v.touched; placed = v.placed ++ k ∷ []; nodes = ns } in
    (s.0 ∙ ap F (sym (ap (λ (z : View). z.nodes) s.0)), omega arith, s.1)

pub spot_old : (k e b : ℕ) (v w : View) → IsSpot k v w (Seen e) → e < 4 * b → b ≡ v.start.buckets → IsTouched k v w (Old e)
spot_old k e b v w s low is =
    let F : List (ℕ × ℕ) → View = λ ns. record v { seen = w.seen; looks = w.looks; touched = touched_after k e k v.touched; nodes = ns } in
    (s.0 ∙ ap F (sym (ap (λ (z : View). z.nodes) s.0)), omega arith, s.1, s.2)

pub spot_full : (k : ℕ) (v w x : View) (t : Touched) → IsSpot k v w Full → IsTouched k w x t → IsTouched k v x t
spot_full k v w x t s q =
    let F : List (ℕ × ℕ) → View = λ ns. record v { seen = w.seen; looks = w.looks; nodes = ns } in
    roamed k v w x t (s.0.view ∙ ap F (sym (ap (λ (z : View). z.nodes) s.0.view)), (s.0.later, s.0.looks)) q

pub full_start : (k j : ℕ) (v w : View) → IsSpot k v w Full → (j ≡ home v.start.buckets k) × (j < v.start.buckets) → (j ≡ home w.start.buckets k) × (j < w.start.buckets)
full_start k j v w s p = let st : w.start ≡ v.start = ap (λ (z : View). z.start) s.0.view in subst (λ (t : Table). (j ≡ home t.buckets k) × (j < t.buckets)) (sym st) p

pub full_passed : (k : ℕ) (v w : View) → IsSpot k v w Full → Passes (shown w.start w.seen) k (home w.start.buckets k) 4
full_passed k v w s = let st : w.start ≡ v.start = ap (λ (z : View). z.start) s.0.view in subst (λ (t : Table). Passes (shown t w.seen) k (home t.buckets k) 4) (sym st) s.1
